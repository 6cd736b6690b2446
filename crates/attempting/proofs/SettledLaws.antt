-- What a call on an image leaves that may run slots, from what its entry answers and makes of the table and of the order list.
use mathlib.Core.Path.{◌≡◌, refl, sym, ◌∙◌}
use mathlib.Core.List.{List}
use mathlib.Core.Bool.{Bool, true, false, true≢false}
use Prim.Native.Nat.{ℕ, ◌<◌, ◌≤◌}
use native.Mathlib.Omega.{arith}
use lib.ListN.{length}
use Rattle.base.specs.Answer.{number_of, is_refused}
use Rattle.base.specs.declared.answer.Answer.{Answer}
use Rattle.base.specs.declared.answer.Answer.TheVariants.{Refused}
use Rattle.table.specs.declared.table.Table.{Table}
use Rattle.image.specs.Tables.{image_width, table_at, image_known, TableWhole}
use Rattle.layout.specs.Numbers.{Bytes}
use Rattle.image.proofs.ReadLaws.{table_read}
use Rattle.calls.specs.Calls.{image_with}
use Rattle.calls.proofs.WrittenLaws.{taken_number, bytes_stay, laid_length, image_length, image_reads}
use Rattle.attempting.specs.Attempting.{settled_ran}

-- ---- the entry

module _ (t : Table) (order : List ℕ) where
  -- a refusal is from 1 to 8 and leaves the list as it was; else a whole table stays whole; the list keeps its length
  pub record Settles (a : Answer) (after : Table) (list : List ℕ) : Type 0 where
    pub refused : is_refused a ≡ true → (1 ≤ number_of a) × (number_of a ≤ 8) × (list ≡ order)
    pub whole : is_refused a ≡ false → TableWhole t → TableWhole after
    pub sized : length list ≡ length order

  pub refused_settles : {k : ℕ} → 1 ≤ k → k ≤ 8 → Settles (Refused k) t order
  refused_settles l m = record { refused = λ _. (l, m, refl); whole = λ f. absurd (true≢false f); sized = refl }

  pub taken_settles : {a : Answer} {after : Table} {list : List ℕ} → is_refused a ≡ false → (TableWhole t → TableWhole after) → length list ≡ length order → Settles a after list
  taken_settles e w l = record { refused = λ f. absurd (true≢false (sym f ∙ e)); whole = λ _. w; sized = l }

module _ {t : Table} {order : List ℕ} {a : Answer} {after : Table} {list : List ℕ} (s : Settles t order a after list) where
  -- no number but those from 1 to 8 and from 100 on
  pub settled_not : (k : ℕ) → (1 ≤ k → 8 < k) → k < 100 → number_of a ≡ k → ⊥
  settled_not k f h z = go (is_refused a) refl
    where
      go : (b : Bool) → is_refused a ≡ b → ⊥
      go true e = omega (arith, (s.refused e).1, f (omega (arith, (s.refused e).0)))
      go false e = omega (arith, taken_number a e)

  settled_list : number_of a < 100 → list ≡ order
  settled_list l = go (is_refused a) refl
    where
      go : (b : Bool) → is_refused a ≡ b → list ≡ order
      go true e = (s.refused e).2
      go false e = absurd (omega (arith, taken_number a e))

-- ---- the call

module _ {a : Answer} {after : Table} {list : List ℕ} (image order ran : List ℕ) (many : ℕ) (s : Settles (table_at image) order a after list) where
  -- below 100 image, list and ran are as they were
  pub settled_stays : number_of a < 100 → (image_with a after image ≡ image) × (list ≡ order) × (settled_ran a many ran ≡ ran)
  settled_stays l = (bytes_stay a image _ l, settled_list s l, bytes_stay a ran _ l)

  pub settled_lengths : length image ≡ image_width
      → (length (image_with a after image) ≡ length image) × (length list ≡ length order) × (length (settled_ran a many ran) ≡ length ran)
  settled_lengths l = (image_length a after image l, s.sized, laid_length a _ ran)

  -- from 100 on the image is that of the table after it
  pub settled_follows : Bytes image → 100 ≤ number_of a → (table_at (image_with a after image) ≡ after) × (image_known (image_with a after image) ≡ true)
  settled_follows b l = go (is_refused a) refl
    where
      go : (x : Bool) → is_refused a ≡ x → (table_at (image_with a after image) ≡ after) × (image_known (image_with a after image) ≡ true)
      go true e = absurd (omega (arith, (s.refused e).1))
      go false e = image_reads a after image e (s.whole e (table_read image b))
