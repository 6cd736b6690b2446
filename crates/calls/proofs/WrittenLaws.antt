-- What an answer leaves in the bytes: a number below 100 is a refusal's, which writes nothing; no length changes; a table written is read again.
use mathlib.Core.Path.{◌≡◌, refl, sym, ◌∙◌}
use mathlib.Core.List.{List}
use mathlib.Core.Bool.{Bool, true, false, cond, ◌&&◌, true≢false}
use Prim.Native.Nat.{ℕ, ◌<◌, ◌≤◌}
use native.Mathlib.Omega.{arith}
use borrow.Author.Tests.{eqb-true}
use lib.ListN.{length}
use Rattle.base.specs.Answer.{number_of, is_refused}
use Rattle.base.specs.declared.answer.Answer.{Answer}
use Rattle.base.specs.declared.answer.Answer.TheVariants.{Done, Ignored, NotYet, Already, Refused}
use Rattle.base.proofs.Loops.{both_true}
use Rattle.table.specs.declared.table.Table.{Table}
use Rattle.layout.proofs.Laying.{lay_length}
use Rattle.image.specs.Tables.{image_width, table_at, image_known, TableWhole}
use Rattle.image.proofs.TableLaws.{table_length, table_back, table_known}
use Rattle.calls.specs.Calls.{image_long, bytes_after, image_with, laid_with}

-- what is no refusal has a number from 100 on
pub taken_number : (a : Answer) → is_refused a ≡ false → 100 ≤ number_of a
taken_number Done e = omega arith
taken_number Ignored e = omega arith
taken_number NotYet e = omega arith
taken_number Already e = omega arith
taken_number (Refused k) e = absurd (true≢false e)

-- ---- any bytes

module _ (a : Answer) (before written : List ℕ) where
  pub bytes_stay : number_of a < 100 → bytes_after a before written ≡ before
  bytes_stay l = go (is_refused a) refl
    where
      go : (b : Bool) → is_refused a ≡ b → cond b before written ≡ before
      go true e = refl
      go false e = absurd (omega (arith, taken_number a e))

  pub bytes_length : length written ≡ length before → length (bytes_after a before written) ≡ length before
  bytes_length l = go (is_refused a)
    where
      go : (b : Bool) → length (cond b before written) ≡ length before
      go true = refl
      go false = l

pub laid_length : (a : Answer) (bytes s : List ℕ) → length (laid_with a bytes s) ≡ length s
laid_length a bytes s = bytes_length a s _ (lay_length _ _ _)

-- ---- the image

pub long_image : (image : List ℕ) (rest : Bool) → (image_long image && rest) ≡ true → length image ≡ image_width
long_image image rest e = eqb-true _ _ (both_true _ _ e).0

module _ (a : Answer) (t : Table) (image : List ℕ) where
  pub image_length : length image ≡ image_width → length (image_with a t image) ≡ length image
  image_length l = bytes_length a image _ (table_length t ∙ sym l)

  pub image_reads : is_refused a ≡ false → TableWhole t → (table_at (image_with a t image) ≡ t) × (image_known (image_with a t image) ≡ true)
  image_reads e w = (rw e (table_back t w), rw e (table_known t w))
