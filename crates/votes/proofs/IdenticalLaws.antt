-- The count of identical entries: marks that are taken away, and why no entry need be counted twice.
use mathlib.Core.Path.{◌≡◌, refl, ap, sym, ◌∙◌}
use mathlib.Core.List.{List}
use mathlib.Core.Bool.{Bool, true, false, not, cond, ◌&&◌, and-false, and-true, and_assoc, true≢false}
use Prim.Native.Nat.{ℕ, ◌+◌, ◌<◌, ◌≤◌, max}
use native.Mathlib.Numerals.{add-one}
use borrow.Author.Tests.{eq-eqb, eqb-true, le-leb, lt-leb}
use lib.Dec.{leb, eqb}
use Rattle.deps.specs.Sets.{same_set}
use Rattle.deps.proofs.SetLaws.{same_itself, sym_sets, trans_sets}
use Rattle.deps.proofs.BatchLaws.{batch_itself, sym_batches, trans_batches}
use native.Mathlib.Omega.{arith}
use lib.ListN.{length, set}
use Rattle.base.specs.Below.{all_below, count_below, greatest_below, list_below}
use Rattle.base.specs.Marks.{marked, count_of}
use Rattle.base.proofs.Loops.{both_true, all_none, all_at, all_each, all_not, some_fails, count_same, count_less, count_at_most, greatest_more, greatest_at, greatest_at_most, mix, mix_more, mix_next, mix_keep, length_below, below_at_lem}
use Rattle.votes.specs.Contents.{said_by, same_contents}
use Rattle.votes.specs.Identical.{same_said, is_equal, equal_to, occurrences, has_enough, occurrences_in, first_enough, most_equals, identical_of, other_than}
use Rattle.std.specs.Prelude.{Option, None, Some}
use Rattle.votes.specs.Holder.{first_of, lowest_below, Inside}
use Rattle.votes.specs.declared.contents.Contents.{Contents}
use Rattle.votes.specs.declared.identical.Identical.{Identical}
use Rattle.votes.proofs.HolderLaws.{lowest_in, lowest_out, lowest_nobody, all_fail_lowest, lowest_inside}

not_is_false : (b : Bool) → not b ≡ false → b ≡ true
not_is_false true e = refl
not_is_false false e = absurd (true≢false e)

-- ---- one turn of taking a group away

module _ (entries : List Contents) (left : List Bool) (l : length left ≡ 7) (r : ℕ) where
  abbrev pub others : List Bool
  others = list_below 7 (other_than entries left r)

  long : length others ≡ length left
  long = length_below 7 _ ∙ sym l

  -- the test that the loop makes, of the marks it has so far
  pub test_is : (rest : List Bool) (q : ℕ) → q < 7 → rest ≡ mix others left q → is_equal (marked rest q) (said_by entries r) (said_by entries q) ≡ equal_to entries left r q
  test_is rest q h e = rw (e, mix_next others left long q false (omega arith))

  other_not : (q : ℕ) → equal_to entries left r q ≡ true → other_than entries left r q ≡ false
  other_not q t = let e : same_said entries r q ≡ true = (both_true (marked left q) (same_said entries r q) t).1 in rw e (and-false (marked left q))

  other_still : (q : ℕ) → equal_to entries left r q ≡ false → other_than entries left r q ≡ marked left q
  other_still q t = go (marked left q) (same_said entries r q) t
    where
      go : (m s : Bool) → (m && s) ≡ false → (m && not s) ≡ m
      go true true e = absurd (true≢false e)
      go true false e = refl
      go false s e = refl

  pub taken_away : (q : ℕ) → q < 7 → equal_to entries left r q ≡ true → set (mix others left q) q false ≡ mix others left (q + 1)
  taken_away q h t =
      ap (λ (b : Bool). set (mix others left q) q b) (sym (below_at_lem 7 (other_than entries left r) q false h ∙ other_not q t)) ∙ mix_more others left long q false (omega arith)

  pub left_there : (q : ℕ) → q < 7 → equal_to entries left r q ≡ false → mix others left q ≡ mix others left (q + 1)
  left_there q h t = mix_keep others left long q false (omega arith) (below_at_lem 7 (other_than entries left r) q false h ∙ other_still q t)

-- ---- why an entry that is no longer left need not be counted

module _ (listed : ℕ → Bool) (same : ℕ → ℕ → Bool)
    (sy : (r q : ℕ) → same r q ≡ true → same q r ≡ true)
    (tr : (r q s : ℕ) → same r q ≡ true → same q s ≡ true → same r s ≡ true) where
  -- r is listed and says what q says
  abbrev says : ℕ → ℕ → Bool
  says q r = listed r && same r q

  abbrev not_said : ℕ → ℕ → Bool
  not_said q r = not (says q r)

  -- q is listed, and none below i says what it says
  abbrev pub left_at : ℕ → ℕ → Bool
  left_at i q = listed q && all_below i (not_said q)

  abbrev pub times : ℕ → ℕ
  times r = count_below 7 (λ q. listed q && same r q)

  abbrev pub times_in : ℕ → ℕ
  times_in r = cond (listed r) (times r) 0

  abbrev pub enough_times : ℕ → ℕ → Bool
  enough_times enough r = listed r && leb enough (times r)

  pub left_first : (q : ℕ) → listed q ≡ left_at 0 q
  left_first q = rw (all_none (not_said q)) (sym (and-true (listed q)))

  same_row_lem : (r i q : ℕ) → same r i ≡ true → same r q ≡ same i q
  same_row_lem r i q h = go (same r q) refl (same i q) refl
    where
      go : (a : Bool) → same r q ≡ a → (b : Bool) → same i q ≡ b → same r q ≡ same i q
      go true e true f = e ∙ sym f
      go false e false f = e ∙ sym f
      go true e false f = absurd (true≢false (sym (tr i r q (sy r i h) e) ∙ f))
      go false e true f = absurd (true≢false (sym (tr r i q h f) ∙ e))

  same_times : (r i : ℕ) → same r i ≡ true → times r ≡ times i
  same_times r i h = count_same _ _ 7 (λ q l. ap (λ (b : Bool). listed q && b) (same_row_lem r i q h))

  left_more : (i q : ℕ) → left_at (i + 1) q ≡ (left_at i q && not_said q i)
  unfolding all_below
  left_more i q = rw (add-one i) (sym (and_assoc (listed q) (all_below i (not_said q)) (not_said q i)))

  -- ---- an entry that is left: all that say the same are left too

  all_left : (i q : ℕ) → left_at i i ≡ true → same i q ≡ true → all_below i (not_said q) ≡ true
  all_left i q h e = all_each (not_said q) i (λ r l. go r (all_at (not_said i) i (both_true (listed i) (all_below i (not_said i)) h).1 r l) (says q r) refl)
    where
      go : (r : ℕ) → not_said i r ≡ true → (b : Bool) → says q r ≡ b → not_said q r ≡ true
      go r n false f = rw f
      go r n true f =
          let s = both_true (listed r) (same r q) f in
          let k : same r i ≡ true = tr r q i s.1 (sy i q e) in
          let z : not_said i r ≡ false = rw (s.0, k) in
          absurd (true≢false (sym n ∙ z))

  left_as_listed : (i q : ℕ) → left_at i i ≡ true → (left_at i q && same i q) ≡ (listed q && same i q)
  left_as_listed i q h = go (same i q) refl
    where
      go : (b : Bool) → same i q ≡ b → (left_at i q && same i q) ≡ (listed q && same i q)
      go true e = rw (all_left i q h e, and-true (listed q))
      go false e = rw (e, and-false (left_at i q)) (sym (and-false (listed q)))

  module _ (left : ℕ → Bool) (i : ℕ) (inv : (q : ℕ) → q < 7 → left q ≡ left_at i q) (l : i < 7) where
    pub left_listed : left i ≡ true → listed i ≡ true
    left_listed h = (both_true (listed i) (all_below i (not_said i)) (sym (inv i l) ∙ h)).0

    pub left_times : left i ≡ true → count_below 7 (λ q. left q && same i q) ≡ times i
    left_times h = count_same _ _ 7 (λ q k. ap (λ (b : Bool). b && same i q) (inv q k) ∙ left_as_listed i q (sym (inv i l) ∙ h))

    pub left_without : left i ≡ true → (q : ℕ) → q < 7 → (left q && not (same i q)) ≡ left_at (i + 1) q
    left_without h q k =
        let y : listed i ≡ true = left_listed h in
        ap (λ (b : Bool). b && not (same i q)) (inv q k) ∙ sym (left_more i q ∙ rw y)

    -- ---- one that is not: it is not listed, or a lower one says the same

    pub data Why : Type 0 where
      unlisted : listed i ≡ false → Why
      lower : (r : ℕ) → r < i → listed r ≡ true → same r i ≡ true → listed i ≡ true → Why

    why : left i ≡ false → Why
    why h = go (listed i) refl
      where
        go : (b : Bool) → listed i ≡ b → Why
        go false e = unlisted e
        go true e =
            let f : left_at i i ≡ false = sym (inv i l) ∙ h in
            let g : all_below i (not_said i) ≡ false = rw e at f in
            let s = some_fails (not_said i) i g in
            let y : says i s.0 ≡ true = not_is_false (says i s.0) s.2 in
            let z = both_true (listed s.0) (same s.0 i) y in
            lower s.0 s.1 z.0 z.1 e

    pub still_left : left i ≡ false → (q : ℕ) → q < 7 → left q ≡ left_at (i + 1) q
    still_left h q k = inv q k ∙ sym (left_more i q ∙ go (why h))
      where
        go : Why → (left_at i q && not_said q i) ≡ left_at i q
        go (unlisted e) = rw (e, and-true (left_at i q))
        go (lower r m a b e) = again (same i q) refl
          where
            again : (c : Bool) → same i q ≡ c → (left_at i q && not_said q i) ≡ left_at i q
            again false f = rw (f, and-false (listed i), and-true (left_at i q))
            again true f =
                let g : not_said q r ≡ false = rw (a, same_row_lem r i q b, f) in
                let n : all_below i (not_said q) ≡ false = all_not (not_said q) i r m g in
                rw (n, and-false (listed q))

    pub still_most : left i ≡ false → (most : ℕ) → most ≡ greatest_below i times_in → most ≡ greatest_below (i + 1) times_in
    still_most h most e = greatest_more times_in i most most e (go (why h))
      where
        go : Why → most ≡ max most (times_in i)
        go (unlisted f) = rw f (omega arith)
        go (lower r m a b f) =
            let g : times_in r ≡ times_in i = rw (a, f) (same_times r i b) in
            omega (arith, greatest_at times_in i r m, e, g)

    pub still_first : (enough : ℕ) → left i ≡ false → (first : Option ℕ) → first ≡ lowest_below i (enough_times enough) → first ≡ lowest_below (i + 1) (enough_times enough)
    still_first enough h first e = go (enough_times enough i) refl (why h)
      where
        go : (b : Bool) → enough_times enough i ≡ b → Why → first ≡ lowest_below (i + 1) (enough_times enough)
        go false f w = lowest_out (enough_times enough) i first f e
        go true f (unlisted g) = absurd (true≢false (sym f ∙ rw g))
        go true f (lower r m a b g) =
            let y : enough_times enough r ≡ true = rw (a, same_times r i b) (rw g at f) in
            found (lowest_below i (enough_times enough)) refl y
          where
            found : (x : Option ℕ) → lowest_below i (enough_times enough) ≡ x → enough_times enough r ≡ true → first ≡ lowest_below (i + 1) (enough_times enough)
            found None k y = absurd (true≢false (sym y ∙ lowest_nobody i (enough_times enough) k r m))
            found (Some j) k y = e ∙ k ∙ sym (ap (λ (x : Option ℕ). first_of x i) k) ∙ lowest_in (enough_times enough) i (lowest_below i (enough_times enough)) f refl

-- ---- one turn of the count, at an entry that is left

module _ (entries : List Contents) (listed : List Bool) (r : ℕ) (h : marked listed r ≡ true) (count : ℕ) (n : count ≡ occurrences entries listed r) where
  pub enough_there : (enough : ℕ) → enough ≤ count → has_enough entries listed enough r ≡ true
  enough_there enough l = rw (h, ← n) (le-leb enough count l)

  pub enough_not : (enough : ℕ) → count < enough → has_enough entries listed enough r ≡ false
  enough_not enough l = rw (h, ← n) (lt-leb enough count l)

  pub counted_in : count ≡ occurrences_in entries listed r
  counted_in = rw h n

-- ---- who is first, and how many there are at most

pub first_inside : (entries : List Contents) (listed : List Bool) (enough : ℕ) → Inside (first_enough entries listed enough)
unfolding first_enough
first_inside entries listed enough = lowest_inside (has_enough entries listed enough)

-- an empty list has none
pub empty_never : (entries : List Contents) (listed : List Bool) (enough : ℕ) → ((r : ℕ) → r < 7 → marked listed r ≡ false) → first_enough entries listed enough ≡ None
unfolding first_enough
empty_never entries listed enough h = all_fail_lowest 7 (has_enough entries listed enough) (λ r l. ap (λ (b : Bool). b && leb enough (occurrences entries listed r)) (h r l))

-- what is said occurs no more often than there are entries
pub at_most_listed : (entries : List Contents) (listed : List Bool) (r : ℕ) → occurrences entries listed r ≤ count_of listed
unfolding count_of
at_most_listed entries listed r = count_less (equal_to entries listed r) (marked listed) 7 (λ q l h. (both_true (marked listed q) _ h).0)

pub found_inside : (entries : List Contents) (listed : List Bool) (enough : ℕ) (x : Identical) → x ≡ identical_of entries listed enough → Inside x.first
found_inside entries listed enough x e = rw e (first_inside entries listed enough)

pub most_at_most : (entries : List Contents) (listed : List Bool) → most_equals entries listed ≤ 7
unfolding most_equals
most_at_most entries listed = greatest_at_most (occurrences_in entries listed) 7 7 (λ r l. go r (marked listed r))
  where
    go : (r : ℕ) (b : Bool) → cond b (occurrences entries listed r) 0 ≤ 7
    go r true = count_at_most (equal_to entries listed r) 7
    go r false = omega arith

-- ---- equal contents are an equivalence

pub contents_itself : (a : Contents) → same_contents a a ≡ true
unfolding same_contents
contents_itself a = rw (eq-eqb a.seq a.seq refl, same_itself a.deps, batch_itself a.batch)

pub sym_contents : (a b : Contents) → same_contents a b ≡ true → same_contents b a ≡ true
unfolding same_contents
sym_contents a b h =
    let s = both_true (eqb a.seq b.seq) _ h in
    let t = both_true (same_set a.deps b.deps) _ s.1 in
    rw (eq-eqb b.seq a.seq (sym (eqb-true a.seq b.seq s.0)), sym_sets a.deps b.deps t.0, sym_batches a.batch b.batch t.1)

pub trans_contents : (a b d : Contents) → same_contents a b ≡ true → same_contents b d ≡ true → same_contents a d ≡ true
unfolding same_contents
trans_contents a b d h k =
    let s = both_true (eqb a.seq b.seq) _ h in
    let t = both_true (same_set a.deps b.deps) _ s.1 in
    let u = both_true (eqb b.seq d.seq) _ k in
    let v = both_true (same_set b.deps d.deps) _ u.1 in
    rw (
      eq-eqb a.seq d.seq (eqb-true a.seq b.seq s.0 ∙ eqb-true b.seq d.seq u.0),
      trans_sets a.deps b.deps d.deps t.0 v.0,
      trans_batches a.batch b.batch d.batch t.1 v.1,
    )

pub sym_said : (entries : List Contents) (r q : ℕ) → same_said entries r q ≡ true → same_said entries q r ≡ true
sym_said entries r q = sym_contents (said_by entries r) (said_by entries q)

pub trans_said : (entries : List Contents) (r q s : ℕ) → same_said entries r q ≡ true → same_said entries q s ≡ true → same_said entries r s ≡ true
trans_said entries r q s = trans_contents (said_by entries r) (said_by entries q) (said_by entries s)
