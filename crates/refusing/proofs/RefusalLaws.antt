-- The number of the refusal says at which stage it was refused, and the stage says the number.
use mathlib.Core.Path.{◌≡◌, refl}
use mathlib.Core.List.{List}
use mathlib.Core.Bool.{Bool, true, false, cond}
use Prim.Native.Nat.{ℕ, zero, suc}
use Rattle.base.specs.Refusals.{outside_bounds, no_replica, bad_dependency, bad_batch, over_limit}
use Rattle.base.specs.Config.{config_fits}
use Rattle.base.specs.declared.config.Config.{Config}
use Rattle.refusing.specs.Refusal.{deps_fit, batch_fit, sequence_fit, parts_fit, refusal_of}
use Rattle.votes.specs.declared.contents.Contents.{Contents}

-- ---- five tests in a row, and the number of the first that fails

module _ (a b d e s : Bool) where
  -- what a number tells of the tests
  abbrev Told : ℕ → Type 0
  Told zero = (a ≡ true) × (b ≡ true) × (d ≡ true) × (e ≡ true) × (s ≡ true)
  Told (suc zero) = a ≡ false
  Told (suc (suc zero)) = (a ≡ true) × (b ≡ false)
  Told (suc (suc (suc zero))) = ⊥
  Told (suc (suc (suc (suc zero)))) = (a ≡ true) × (b ≡ true) × (d ≡ false)
  Told (suc (suc (suc (suc (suc zero))))) = (a ≡ true) × (b ≡ true) × (d ≡ true) × (e ≡ false)
  Told (suc (suc (suc (suc (suc (suc zero)))))) = (a ≡ true) × (b ≡ true) × (d ≡ true) × (e ≡ true) × (s ≡ false)
  Told (suc (suc (suc (suc (suc (suc (suc k))))))) = ⊥

  abbrev first : ℕ
  first = cond a (cond b (cond d (cond e (cond s 0 over_limit) bad_batch) bad_dependency) no_replica) outside_bounds

  first_is : (k : ℕ) → Told k → first ≡ k
  first_is zero t = rw (t.0, t.1, t.2, t.3, t.4)
  first_is (suc zero) t = rw t
  first_is (suc (suc zero)) t = rw (t.0, t.1)
  first_is (suc (suc (suc zero))) t = absurd t
  first_is (suc (suc (suc (suc zero)))) t = rw (t.0, t.1, t.2)
  first_is (suc (suc (suc (suc (suc zero))))) t = rw (t.0, t.1, t.2, t.3)
  first_is (suc (suc (suc (suc (suc (suc zero)))))) t = rw (t.0, t.1, t.2, t.3, t.4)
  first_is (suc (suc (suc (suc (suc (suc (suc k))))))) t = absurd t

first_tells : (a b d e s : Bool) → Told a b d e s (first a b d e s)
first_tells false b d e s = refl
first_tells true false d e s = (refl, refl)
first_tells true true false e s = (refl, refl, refl)
first_tells true true true false s = (refl, refl, refl, refl)
first_tells true true true true false = (refl, refl, refl, refl, refl)
first_tells true true true true true = (refl, refl, refl, refl, refl)

-- ---- the refusal

pub record Accepted (c : Config) (named : Bool) (listed : List Bool) (entries : List Contents) : Type 0 where
  pub config : config_fits c ≡ true
  pub replicas : named ≡ true
  pub deps : parts_fit (deps_fit c.n) listed entries ≡ true
  pub batches : parts_fit batch_fit listed entries ≡ true
  pub sequences : parts_fit sequence_fit listed entries ≡ true

module _ (c : Config) (named : Bool) (listed : List Bool) (entries : List Contents) where
  abbrev pub fitting : (Contents → Bool) → Bool
  fitting part_fits = parts_fit part_fits listed entries

  abbrev pub Exactly : ℕ → Type 0 → Type 0
  Exactly k P = (refusal_of c named listed entries ≡ k → P) × (P → refusal_of c named listed entries ≡ k)

  exactly : (k : ℕ) → Exactly k (Told (config_fits c) named (fitting (deps_fit c.n)) (fitting batch_fit) (fitting sequence_fit) k)
  unfolding refusal_of
  exactly k = (
    λ e. rw (← e) (first_tells (config_fits c) named (fitting (deps_fit c.n)) (fitting batch_fit) (fitting sequence_fit)),
    first_is (config_fits c) named (fitting (deps_fit c.n)) (fitting batch_fit) (fitting sequence_fit) k,
  )

  pub refusal_none : refusal_of c named listed entries ≡ 0 → Accepted c named listed entries
  refusal_none e = let t = (exactly 0).0 e in record { config = t.0; replicas = t.1; deps = t.2; batches = t.3; sequences = t.4 }

  pub accepted_none : Accepted c named listed entries → refusal_of c named listed entries ≡ 0
  accepted_none a = (exactly 0).1 (a.config, a.replicas, a.deps, a.batches, a.sequences)

  pub refused_bounds : Exactly outside_bounds (config_fits c ≡ false)
  refused_bounds = exactly 1

  pub refused_replica : Exactly no_replica ((config_fits c ≡ true) × (named ≡ false))
  refused_replica = exactly 2

  pub refused_dependency : Exactly bad_dependency ((config_fits c ≡ true) × (named ≡ true) × (fitting (deps_fit c.n) ≡ false))
  refused_dependency = exactly 4

  pub refused_batch : Exactly bad_batch ((config_fits c ≡ true) × (named ≡ true) × (fitting (deps_fit c.n) ≡ true) × (fitting batch_fit ≡ false))
  refused_batch = exactly 5

  pub refused_sequence : Exactly over_limit ((config_fits c ≡ true) × (named ≡ true) × (fitting (deps_fit c.n) ≡ true) × (fitting batch_fit ≡ true) × (fitting sequence_fit ≡ false))
  refused_sequence = exactly 6
