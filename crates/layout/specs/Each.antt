-- Elements of one width, one after the other.
use Rattle.std.specs.Prelude.{List, [], ◌∷◌, ◌++◌, ℕ, zero, suc, drop}

-- n elements of w bytes, each as one says of the bytes from its first on
unfoldable pub each_at : {A : Type 0} → (List ℕ → A) → ℕ → ℕ → List ℕ → List A
each_at one w zero l = []
each_at one w (suc n) l = one l ∷ each_at one w n (drop w l)

-- the bytes of elements 0, 1, .., n - 1
unfoldable pub each_bytes : (ℕ → List ℕ) → ℕ → List ℕ
each_bytes bytes zero = []
each_bytes bytes (suc n) = each_bytes bytes n ++ bytes n
