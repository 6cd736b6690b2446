-- What a host may rely on of open and of a message: open leaves what it refuses and writes an empty table, and a message's numbers fit their bytes.
use mathlib.Core.Path.{◌≡◌, refl}
use mathlib.Core.List.{List}
use mathlib.Core.Bool.{Bool, true, false}
use Prim.Native.Nat.{ℕ, ◌<◌, ◌^◌}
use native.Mathlib.Omega.{arith}
use lib.ListN.{drop}
use Rattle.base.specs.Config.{config_fits}
use Rattle.table.specs.Table.{empty_table}
use Rattle.bounds.specs.Open.{config_of, open_of}
use Rattle.outcomes.specs.declared.message.Message.{Message}
use Rattle.octets.proofs.SetLaws.{rows_length}
use Rattle.image.specs.Tables.{table_at, image_known}
use Rattle.image.proofs.TableLaws.{table_back, table_known}
use Rattle.layout.specs.Numbers.{Bytes}
use Rattle.slot_bytes.proofs.ReadLaws.{bytes_past, batch_read}
use Rattle.calls.specs.Calls.{image_long}
use Rattle.calls.proofs.WholeLaws.{ProposalWhole, empty_whole}
use Rattle.messaging.specs.Messages.{open_code, open_image, proposal_of}

-- ---- open

module _ (n own simple sup : ℕ) (image : List ℕ) where
  pub open_stays : open_code n own simple sup image < 100 → open_image n own simple sup image ≡ image
  unfolding open_code open_image open_of
  open_stays = go (image_long image) refl (config_fits (config_of n own simple sup)) refl
    where
      go : (l : Bool) → image_long image ≡ l → (f : Bool) → config_fits (config_of n own simple sup) ≡ f → open_code n own simple sup image < 100 → open_image n own simple sup image ≡ image
      go false e f g h = rw e
      go true e false g h = rw (e, g)
      go true e true g h = absurd (omega (arith, rw (e, g) at h))

  -- an empty table, and the image reads so
  pub open_reads : image_long image ≡ true → config_fits (config_of n own simple sup) ≡ true
      → (open_code n own simple sup image ≡ 100) × (table_at (open_image n own simple sup image) ≡ empty_table (config_of n own simple sup)) × (image_known (open_image n own simple sup image) ≡ true)
  unfolding open_code open_image open_of
  open_reads l f =
      let w = empty_whole (config_of n own simple sup) f in
      (rw (l, f), rw (l, f) (table_back (empty_table (config_of n own simple sup)) w), rw (l, f) (table_known (empty_table (config_of n own simple sup)) w))

-- ---- a message and its contents

pub proposal_read : (m : Message) (contents : List ℕ) → m.ballot < 256 ^ 8 → Bytes contents → ProposalWhole (proposal_of m contents)
proposal_read m contents h b =
    record { ballot = h; deps = rows_length (drop 8 contents); batch = batch_read (drop 15 contents) (bytes_past 15 contents b) }
