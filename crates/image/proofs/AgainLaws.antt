-- A table that is read and written again in its place: what stands before the slots is as it was.
use mathlib.Core.Path.{◌≡◌, refl, ap, sym, ◌∙◌}
use mathlib.Core.List.{List}
use Prim.Native.Nat.{ℕ, ◌+◌, ◌*◌, ◌<◌, min}
use native.Mathlib.Omega.{arith}
use lib.ListN.{length, get_or, drop, replicate}
use lib.Seq.{drop-drop}
use Rattle.deps.specs.Sets.{set_of}
use Rattle.keys.specs.Columns.{columns_of}
use Rattle.layout.specs.Numbers.{byte_of, byte_for, lay, Bytes}
use Rattle.layout.proofs.Laying.{Laid, next, lay_whole}
use Rattle.layout.proofs.EachLaws.{each_is}
use Rattle.layout.proofs.AgainLaws.{byte_again, first_past, each_again}
use Rattle.octets.specs.Sets.{rows_at, set_at}
use Rattle.octets.proofs.SetLaws.{set_length}
use Rattle.octets.proofs.AgainLaws.{set_again}
use Rattle.image.specs.Tables.{image_width, config_at, keys_at, slots_at, table_at, config_bytes, row_in, rows_bytes, columns_in, keys_bytes, slots_bytes, table_bytes}
use Rattle.image.proofs.TableLaws.{rows_bytes_length, keys_length, slots_length, table_length}

module _ (l : List ℕ) (h : Bytes l) where
  for_again : (p v : ℕ) → v ≡ get_or l p 0 → l ≡ lay l p (byte_for v)
  for_again p v e = byte_again l p (min v 255) (omega (arith, e, h p))

  config_again : Laid l l 0 (config_bytes (config_at l)) 4
  unfolding config_bytes
  config_again =
      let l₁ : Laid l l 0 (byte_for (get_or l 0 0)) 1 = record { is = for_again 0 _ refl; long = refl } in
      let l₂ = next l (byte_for (get_or l 1 0)) 1 l₁ (for_again 1 _ refl) refl in
      let l₃ = next l (byte_for (get_or l 2 0)) 1 l₂ (for_again 2 _ refl) refl in
      next l (byte_for (get_or l 3 0)) 1 l₃ (for_again 3 _ refl) refl

  rows_again : (p : ℕ) → l ≡ lay l p (rows_bytes (rows_at (drop p l)))
  unfolding rows_at rows_bytes
  rows_again p =
      each_again (row_in (rows_at (drop p l))) 1 (λ i. refl) l p 7
      (λ i q. for_again (p + 1 * i) _ (each_is byte_of 1 7 i (drop p l) 0 q ∙ first_past l p (1 * i)))

  keys_again : (p : ℕ) → l ≡ lay l p (keys_bytes (keys_at (drop p l)))
  unfolding keys_at keys_bytes
  keys_again p = each_again (columns_in (keys_at (drop p l))) 7 (λ key. set_length (columns_of (keys_at (drop p l)) key)) l p 256 again
    where
      again : (key : ℕ) → key < 256 → l ≡ lay l (p + 7 * key) (columns_in (keys_at (drop p l)) key)
      again key q =
          let e : columns_of (keys_at (drop p l)) key ≡ set_at (drop (p + 7 * key) l) = ap set_of (each_is rows_at 7 256 key (drop p l) (replicate 7 0) q ∙ ap rows_at (drop-drop (7 * key) p l)) in
          rw e (set_again l (p + 7 * key))

  pub table_again : length l ≡ image_width → lay l 1810 (slots_bytes (slots_at (drop 1810 l))) ≡ table_bytes (table_at l)
  unfolding table_at table_bytes
  table_again e =
      let t = table_at l in
      let l₂ = next l (rows_bytes t.lens) 7 config_again (rows_again 4) (rows_bytes_length t.lens) in
      let l₃ = next l (rows_bytes t.bars) 7 l₂ (rows_again 11) (rows_bytes_length t.bars) in
      let l₄ = next l (keys_bytes t.keys) 1792 l₃ (keys_again 18) (keys_length t.keys) in
      let l₅ = next (lay l 1810 (slots_bytes t.slots)) (slots_bytes t.slots) 31808 l₄ refl (slots_length t.slots) in
      l₅.is ∙ lay_whole l (table_bytes t) (e ∙ sym (table_length t))
