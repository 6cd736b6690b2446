-- Elements of one width, one after the other: lengths, the element at a place, reading back, and the turns of the loops that read and write them.
use mathlib.Core.Path.{◌≡◌, refl, ap, sym, ◌∙◌}
use mathlib.Core.List.{List, [], ◌∷◌, ◌++◌, append_assoc}
use mathlib.Core.Logic.{⊎_elim}
use Prim.Native.Nat.{ℕ, suc, zero, ◌+◌, ◌*◌, ◌<◌, ◌≤◌}
use native.Mathlib.Numerals.{add-one}
use native.Mathlib.Nat.{mul-zero, eq-or-lt_of_le, le_of_suc-le-suc}
use native.Mathlib.Omega.{arith}
use lib.ListN.{length, get_or, drop, set, length-append}
use lib.Seq.{drop-drop, drop_at, ext_get_or, get_or-drop}
use denote.Param.Members.{Mut, Called}
use Rattle.std.specs.Array.{IsFromFnResultFrom, IsFromFnResult}
use Rattle.base.proofs.Loops.{mix, mix_more, mix_all}
use Rattle.layout.specs.Numbers.{byte_of, lay}
use Rattle.layout.specs.Each.{each_at, each_bytes}
use Rattle.layout.proofs.Laying.{lay_then, lay_byte}

-- ---- reading

module _ {A : Type 0} (one : List ℕ → A) (w : ℕ) where
  pub each_length : (n : ℕ) (l : List ℕ) → length (each_at one w n l) ≡ n
  unfolding each_at
  each_length zero l = refl
  each_length (suc n) l = ap suc (each_length n (drop w l))

  pub each_is : (n i : ℕ) (l : List ℕ) (d : A) → i < n → get_or (each_at one w n l) i d ≡ one (drop (w * i) l)
  unfolding each_at
  each_is zero i l d h = absurd (omega arith)
  each_is (suc n) zero l d h = rw mul-zero
  each_is (suc n) (suc i) l d h =
      let e : w + w * i ≡ w * suc i = omega arith in
      each_is n i (drop w l) d (omega arith) ∙ rw (drop-drop, e)

  -- an array z that is filled from the front with the elements from at on: a turn, and the end
  module _ (n at i : ℕ) (l : List ℕ) (z : List A) (e : length z ≡ n) where
    pub fill_turn : (d : A) {m : List A} {v : A} → m ≡ mix (each_at one w n (drop at l)) z i → i < n → v ≡ one (drop (at + w * i) l) → set m i v ≡ mix (each_at one w n (drop at l)) z (i + 1)
    fill_turn d {m} {v} inv p h =
        let k = each_length n (drop at l) in
        let f : v ≡ get_or (each_at one w n (drop at l)) i d = h ∙ sym (each_is n i (drop at l) d p ∙ rw drop-drop) in
        rw (inv, f) (mix_more (each_at one w n (drop at l)) z (omega arith) i d (omega arith))

    pub fill_end : {m : List A} → m ≡ mix (each_at one w n (drop at l)) z i → n ≤ i → m ≡ each_at one w n (drop at l)
    fill_end inv p =
        let k = each_length n (drop at l) in
        inv ∙ mix_all (each_at one w n (drop at l)) z (omega arith) i (omega arith)

-- an array made by a function of the index, which reads the element at that index from at on
module _ {A F : Type 0} (g : Mut F (ℕ × Unit {0}) A) (one : List ℕ → A) (w at : ℕ) (l : List ℕ) (f : F) (h : (i : ℕ) (y : A) (q : F) → Called g f (i, tt) y q → (y ≡ one (drop (at + w * i) l)) × (q ≡ f)) where
  made_from : (k i j : ℕ) (ys : List A) (d : A) → IsFromFnResultFrom g f ys i k → j < k → get_or ys (i + j) d ≡ one (drop (at + w * (i + j)) l)
  made_from zero i j ys d m p = absurd (omega arith)
  made_from (suc k) i zero ys d (q, y, e, c, m) p =
      let z : i + 0 ≡ i = omega arith in
      rw z (e.1 d ∙ (h i y q c).0)
  made_from (suc k) i (suc j) ys d (q, y, e, c, m) p =
      let z : i + 1 + j ≡ i + suc j = omega arith in
      let r = made_from k (i + 1) j ys d (rw (h i y q c).1 at m) (omega arith) in
      rw z at r

  pub made_is : (n : ℕ) (ys : List A) (d : A) → IsFromFnResult g f ys n → ys ≡ each_at one w n (drop at l)
  made_is n ys d m =
      ext_get_or d ys (each_at one w n (drop at l)) (m.long ∙ sym (each_length one w n (drop at l)))
      (λ i p. let q : i < n = rw m.long at p in let z : 0 + i ≡ i = omega arith in (rw z at (made_from n 0 i ys d m.each q)) ∙ sym (each_is one w n i (drop at l) d q ∙ rw drop-drop refl))

-- the byte that a turn reads
pub byte_is : (l : List ℕ) (at i : ℕ) → get_or l (at + i) 0 ≡ byte_of (drop (at + 1 * i) l)
byte_is l at i =
    let e : at + 1 * i + 0 ≡ at + i = omega arith in
    rw (get_or-drop, e)

-- an array of what is made of one byte after the other
module _ {A F : Type 0} (g : Mut F (ℕ × Unit {0}) A) (of_byte : ℕ → A) (at : ℕ) (l : List ℕ) (f : F) (h : (i : ℕ) (y : A) (q : F) → Called g f (i, tt) y q → (y ≡ of_byte (get_or l (at + i) 0)) × (q ≡ f)) where
  pub made_of_bytes : (n : ℕ) (ys : List A) (d : A) → IsFromFnResult g f ys n → ys ≡ each_at (λ (k : List ℕ). of_byte (byte_of k)) 1 n (drop at l)
  made_of_bytes = made_is g (λ (k : List ℕ). of_byte (byte_of k)) 1 at l f (λ i y q c. ((h i y q c).0 ∙ ap of_byte (byte_is l at i), (h i y q c).1))

-- ---- writing

module _ (bytes : ℕ → List ℕ) (w : ℕ) (h : (i : ℕ) → length (bytes i) ≡ w) where
  pub bytes_length : (n : ℕ) → length (each_bytes bytes n) ≡ w * n
  unfolding each_bytes
  bytes_length zero = rw mul-zero
  bytes_length (suc n) =
      let e : w * n + w ≡ w * suc n = omega arith in
      rw (length-append, h, bytes_length n, e)

  pub lay_turn : (m l o : List ℕ) (at i : ℕ) → l ≡ lay o at (each_bytes bytes i) → m ≡ lay l (at + w * i) (bytes i) → m ≡ lay o at (each_bytes bytes (i + 1))
  unfolding each_bytes
  lay_turn m l o at i p e =
      e ∙ ap (λ (x : List ℕ). lay x (at + w * i) (bytes i)) p ∙ lay_then o at (each_bytes bytes i) (bytes i) (w * i) (bytes_length i) ∙ rw add-one

  -- ---- reading back

  past : (n : ℕ) (r : List ℕ) → drop (w * n) (each_bytes bytes n ++ r) ≡ r
  past n r = drop_at (each_bytes bytes n) r (w * n) (bytes_length n)

  pub one_back : {A : Type 0} (one : List ℕ → A) (x : A) (i n : ℕ) (r : List ℕ) → i < n → ((t : List ℕ) → one (bytes i ++ t) ≡ x) → one (drop (w * i) (each_bytes bytes n ++ r)) ≡ x
  unfolding each_bytes
  one_back one x i zero r p k = absurd (omega arith)
  one_back one x i (suc n) r p k =
      ⊎_elim
      (λ (e : i ≡ n). rw (e, append_assoc, past n (bytes n ++ r), ← e) (k r))
      (λ (q : i < n). rw append_assoc (one_back one x i n (bytes n ++ r) q k))
      (eq-or-lt_of_le (le_of_suc-le-suc p))

  pub each_back : {A : Type 0} (one : List ℕ → A) (n : ℕ) (l : List A) (d : A) (r : List ℕ) → length l ≡ n
      → ((i : ℕ) (t : List ℕ) → i < n → one (bytes i ++ t) ≡ get_or l i d) → each_at one w n (each_bytes bytes n ++ r) ≡ l
  each_back one n l d r e k =
      let z = each_length one w n (each_bytes bytes n ++ r) in
      ext_get_or d (each_at one w n (each_bytes bytes n ++ r)) l (z ∙ sym e)
      (λ i p. let q : i < n = rw z at p in each_is one w n i (each_bytes bytes n ++ r) d q ∙ one_back one (get_or l i d) i n r q (λ t. k i t q))

-- a turn that writes one byte
pub byte_turn : (bytes : ℕ → List ℕ) (l o : List ℕ) (at i v : ℕ) → ((k : ℕ) → length (bytes k) ≡ 1) → l ≡ lay o at (each_bytes bytes i) → bytes i ≡ v ∷ []
    → set l (at + i) v ≡ lay o at (each_bytes bytes (i + 1))
byte_turn bytes l o at i v h p e =
    let f : at + 1 * i ≡ at + i = omega arith in
    lay_turn bytes 1 h (set l (at + i) v) l o at i p (rw (f, e) (lay_byte l (at + i) v))
