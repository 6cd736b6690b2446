-- The rule is the paper's relation with its ties: what follows the rule satisfies both, and only the order computed does.
use mathlib.Core.Path.{◌≡◌}
use mathlib.Core.Bool.{Bool}
use mathlib.Core.List.{List}
use mathlib.Core.Logic.{◌↔◌}
use Prim.Native.Nat.{ℕ}
use native.Mathlib.Omega.{arith}
use lib.ListN.{length}
use Rattle.leads.specs.Depends.{Valid}
use Rattle.order.specs.Listed.{On, how_many, Has, Once, none}
use Rattle.order.specs.Paper.{Paper, Ties}
use Rattle.order.specs.Rule.{without, Runs, done, next}
use Rattle.order.specs.Order.{order_of}
use Rattle.order.proofs.ListLaws.{none_marked, has_none, precedes_none, without_was, without_count}
use Rattle.order.proofs.OrderLaws.{order_runs, order_only}
use Rattle.order.proofs.JoinLaws.{joined_paper, joined_ties}
use Rattle.order.proofs.PartLaws.{paper_runs}

module _ {deps seq : List ℕ} where
  -- what follows the rule satisfies the paper's relation
  pub runs_paper : {todo : List Bool} {L : List ℕ} → Runs deps seq todo L → Paper deps seq todo L
  runs_paper (done off) = record {
    only = λ k h. absurd (has_none k h);
    all = λ k on. absurd (off k on);
    once = none;
    together = λ i j k m p. absurd (precedes_none i j p);
    after = λ i j on. absurd (off i on);
    inside = λ i j on. absurd (off i on);
  }
  runs_paper (next {todo = S} j {B = B} {L = L} low b r) = joined_paper deps seq S j B L low b (runs_paper r)

  -- and has its ties
  pub runs_ties : {todo : List Bool} {L : List ℕ} → Runs deps seq todo L → Ties deps seq todo L
  runs_ties (done off) = record { next = λ i j p. absurd (precedes_none i j p); equal = λ i j on. absurd (off i on) }
  runs_ties (next {todo = S} j {B = B} {L = L} low b r) = joined_ties deps seq S j B L low b (runs_paper r) (runs_ties r)

-- as many are written as are to be written
paper_howmany : (deps seq : List ℕ) (todo : List Bool) (L : List ℕ) → Paper deps seq todo L → length L ≡ how_many todo
paper_howmany deps seq todo L p =
    let left : how_many (without todo L) ≡ 0 = none_marked (without todo L) (λ i on. let w = without_was todo L i on in w.1 (p.all i w.0)) in
    omega (arith, without_count todo L p.once p.only)

module _ (deps seq : List ℕ) (todo : List Bool) (v : Valid deps) (len : length todo ≡ 224) where
  -- the order computed satisfies the paper's relation
  pub order_paper : Paper deps seq todo (order_of deps seq todo)
  order_paper = runs_paper (order_runs deps seq todo v len)

  -- and has its ties
  pub order_ties : Ties deps seq todo (order_of deps seq todo)
  order_ties = runs_ties (order_runs deps seq todo v len)

  -- and is the only list that does
  pub paper_only : (L : List ℕ) → Paper deps seq todo L → Ties deps seq todo L → L ≡ order_of deps seq todo
  paper_only L p t = order_only deps seq todo v len L (paper_runs deps seq v (omega arith) p t)

  -- it holds as many slots as are to be written
  pub order_howmany : length (order_of deps seq todo) ≡ how_many todo
  order_howmany = paper_howmany deps seq todo (order_of deps seq todo) order_paper

  -- exactly those
  pub order_has : (k : ℕ) → Has k (order_of deps seq todo) ↔ On todo k
  order_has k = (order_paper.only k, order_paper.all k)

  -- each once
  pub order_once : Once (order_of deps seq todo)
  order_once = order_paper.once
