-- The reading and the format: what is accepted stands there, what stands there is accepted, and what is refused is refused 9 or 10.
use mathlib.Core.Path.{◌≡◌, refl, ap, ◌∙◌}
use mathlib.Core.List.{List, ◌++◌}
use mathlib.Core.Logic.{◌↔◌, inl}
use Prim.Native.Nat.{ℕ, ◌+◌, ◌≤◌}
use native.Mathlib.Decide.{dec_lt}
use native.Mathlib.Omega.{arith}
use lib.ListN.{length, drop}
use Rattle.base.specs.declared.config.Config.{Config}
use Rattle.proposing.specs.declared.proposals.Phase.TheVariants as Phases
use Rattle.steps.specs.Calls.{Call, propose, reply, prepare, log, try, lead_at}
use Rattle.groups.specs.Numbers.{Bytes}
use Rattle.groups.specs.Cursor.{number_from, number_within}
use Rattle.groups.specs.Reads.{Reads, Fit}
use Rattle.groups.specs.Numbers.{Cursor}
use Rattle.groups.proofs.ReadLaws.{Known, refusal_is, stays_stopped, within_refusal_is, within_stays_stopped}
use Rattle.reading.specs.Events.{start, header_of, Found, found, event_from}
use Rattle.reading.specs.Events.{HeaderRead}
use Rattle.reading.specs.Format.{header_numbers, numbers_of, header_bytes, event_bytes, Writable}
use Rattle.reading.proofs.StandLaws.{reads_after, bytes_each, ends_inside}
use Rattle.reading.proofs.SoundLaws.{event_shaped, event_stands, header_stands}
use Rattle.reading.proofs.CompleteLaws.{event_found, header_found}
use Rattle.reading.proofs.KeepLaws.{event_keeps, header_keeps}

-- ---- what is accepted stands there

-- an event has a tag and a place
three_numbers : (n : ℕ) (call : Call) → 3 ≤ length (numbers_of n call)
unfolding numbers_of
three_numbers n (propose Phases.PreAccept p) = omega arith
three_numbers n (propose Phases.Accept p) = omega arith
three_numbers n (propose Phases.CommitNotice p) = omega arith
three_numbers n (reply m) = omega arith
three_numbers n (prepare m) = omega arith
three_numbers n (log status at) = omega arith
three_numbers n (try at) = omega arith
three_numbers n (lead_at at) = omega arith

module _ (s : List ℕ) (y : Bytes s) where
  -- a header that is accepted has its bytes at the start
  pub header_sound : (header_of s).cursor.refusal ≡ 0 → Reads s start (header_bytes (header_of s).config) (header_of s).cursor
  header_sound z = (header_stands s y z).reads

  module _ (n : ℕ) (h : n ≤ 7) where
    -- an event that is accepted has its bytes there
    pub event_sound : (c : Cursor) → (event_from n s c).cursor.refusal ≡ 0 → Reads s c (event_bytes n (event_from n s c).call) (event_from n s c).cursor
    event_sound c z = (event_stands s y n h c z).reads

    -- and is one that the format allows
    pub event_writable : (c : Cursor) → (event_from n s c).cursor.refusal ≡ 0 → Writable n (event_from n s c).call
    event_writable c z = record { shaped = event_shaped n h s c; fit = (event_stands s y n h c z).fit }

    -- it takes at least three bytes, and ends inside the trace
    pub event_takes : (c : Cursor) → (event_from n s c).cursor.refusal ≡ 0
        → (c.at + 3 ≤ (event_from n s c).cursor.at) × ((event_from n s c).cursor.at ≤ length s)
    event_takes c z =
        let r = event_sound c z in
        let m : 3 ≤ length (event_bytes n (event_from n s c).call) = omega (arith, bytes_each (numbers_of n (event_from n s c).call), three_numbers n (event_from n s c).call) in
        (omega arith, ends_inside r (omega arith))

-- ---- what stands there is accepted

module _ (n : ℕ) (h : n ≤ 7) where
  -- an event that the format allows is accepted, and read as it was meant
  pub event_complete : (s : List ℕ) (c : Cursor) (call : Call) (rest : List ℕ) → Writable n call → c.refusal ≡ 0 → drop c.at s ≡ event_bytes n call ++ rest
      → event_from n s c ≡ found call (record { at = c.at + length (event_bytes n call); refusal = 0 })
  event_complete s c call rest w z e =
      event_found n h call w.shaped (record { reads = reads_after s c (event_bytes n call) rest z e; fit = w.fit })

  -- so an event is read exactly where its bytes stand
  pub event_exactly : (s : List ℕ) (c : Cursor) (call : Call) (d : Cursor) → Bytes s
      → ((event_from n s c ≡ found call d) × (d.refusal ≡ 0)) ↔ (Writable n call × Reads s c (event_bytes n call) d)
  event_exactly s c call d y = (
    λ f.
        let e : (event_from n s c).call ≡ call = ap (λ (x : Found). x.call) f.0 in
        let g : (event_from n s c).cursor ≡ d = ap (λ (x : Found). x.cursor) f.0 in
        let z : (event_from n s c).cursor.refusal ≡ 0 = rw g f.1 in
        let r : Reads s c (event_bytes n call) (event_from n s c).cursor = rw e at (event_sound s y n h c z) in
        (rw e at (event_writable s y n h c z), rw g at r),
    λ f. (event_found n h call f.0.shaped (record { reads = f.1; fit = f.0.fit }), f.1.ends),
  )

-- so is a header
pub header_complete : (s : List ℕ) (config : Config) (rest : List ℕ) → Fit (header_numbers config) → s ≡ header_bytes config ++ rest
    → header_of s ≡ record { config = config; cursor = record { at = length (header_bytes config); refusal = 0 } }
header_complete s config rest f e =
    let z : 0 + length (header_bytes config) ≡ length (header_bytes config) = omega arith in
    header_found config (record { reads = reads_after s start (header_bytes config) rest refl e; fit = f }) ∙ rw z

pub header_exactly : (s : List ℕ) (config : Config) (d : Cursor) → Bytes s
    → ((header_of s ≡ record { config = config; cursor = d }) × (d.refusal ≡ 0)) ↔ (Fit (header_numbers config) × Reads s start (header_bytes config) d)
header_exactly s config d y = (
  λ f.
      let e : (header_of s).config ≡ config = ap (λ (x : HeaderRead). x.config) f.0 in
      let g : (header_of s).cursor ≡ d = ap (λ (x : HeaderRead). x.cursor) f.0 in
      let r = header_stands s y (rw g f.1) in
      let q : Reads s start (header_bytes config) (header_of s).cursor = rw e at r.reads in
      (rw e at r.fit, rw g at q),
  λ f. (header_found config (record { reads = f.1; fit = f.0 }), f.1.ends),
)

-- ---- refusals

module _ (s : List ℕ) where
  known_one : (c : Cursor) → Known c.refusal → Known (number_from s c).cursor.refusal
  known_one c k = elim (dec_lt 0 c.refusal) [
    | yes l ↦ rw (stays_stopped s c (λ z. omega arith)) k
    | no m ↦ refusal_is s c (omega arith)
  ]

  known_within : (least most : ℕ) (c : Cursor) → Known c.refusal → Known (number_within least most s c).cursor.refusal
  known_within least most c k = elim (dec_lt 0 c.refusal) [
    | yes l ↦ rw (within_stays_stopped s c least most (λ z. omega arith)) k
    | no m ↦ within_refusal_is s c least most (omega arith)
  ]

  -- an event is refused 9, 10 or not at all
  pub event_refusals : (n : ℕ) (c : Cursor) → c.refusal ≡ 0 → Known (event_from n s c).cursor.refusal
  event_refusals n c z = event_keeps s (λ (d : Cursor). Known d.refusal) known_one known_within n c (inl z)

  pub header_refusals : Known (header_of s).cursor.refusal
  header_refusals = header_keeps s (λ (d : Cursor). Known d.refusal) known_one known_within (inl refl)

  -- after a refusal nothing is read
  pub event_stopped : (n : ℕ) (c : Cursor) → (c.refusal ≡ 0 → ⊥) → (event_from n s c).cursor ≡ c
  event_stopped n c z =
      event_keeps s (λ (d : Cursor). d ≡ c)
      (λ d e. rw e (stays_stopped s c z))
      (λ least most d e. rw e (within_stays_stopped s c least most z))
      n c refl
