-- The heads of the rows, which of them is ready, and what they leave to be written.
use Rattle.std.specs.Prelude.{◌≡◌, Bool, true, false, ◌&&◌, List, [], ℕ, ◌+◌, ◌*◌, ◌/◌, ◌%◌, ◌≤◌, ◌<◌, max, leb, get_or}
use Rattle.base.specs.Below.{list_below}
use Rattle.base.specs.Marks.{marked}
use Rattle.leads.specs.Frontier.{In, frontier}
use Rattle.leads.specs.Search.{Start}
use Rattle.order.specs.Listed.{On}
use Rattle.order.specs.declared.heads.Head.{Head}

abbrev pub blank_head : Head
blank_head = record { col = 0; reach = record { cols = [] } }

abbrev pub col_of : List Head → ℕ → ℕ
col_of heads row = (get_or heads row blank_head).col

-- what a row's head leads to
abbrev pub reach_of : List Head → ℕ → List ℕ
reach_of heads row = (get_or heads row blank_head).reach.cols

-- no head stands past column 32
abbrev pub Short : List Head → Type 0
Short heads = (row : ℕ) → row < 7 → col_of heads row ≤ 32

-- no row of the prefixes F has more than 32
abbrev pub Low : List ℕ → Type 0
Low F = (row : ℕ) → get_or F row 0 ≤ 32

-- ---- each row's first slot that is to be written

-- col is the first column from c on at which the row is marked, 32 for none
pub record FirstFrom (todo : List Bool) (row c col : ℕ) : Type 0 where
  pub small : col ≤ 32
  pub after : c ≤ col
  pub on : col < 32 → On todo (32 * row + col)
  pub none : (x : ℕ) → c ≤ x → x < col → marked todo (32 * row + x) ≡ false

-- the row's head from column c on: its column, 32 for none, and its frontier; a search goes on from there
pub record HeadAt (deps : List ℕ) (todo : List Bool) (row c col : ℕ) (F : List ℕ) : Type 0 where
  pub first : FirstFrom todo row c col
  pub exact : col < 32 → F ≡ frontier deps (32 * row + col)
  pub start : Start deps row col F

-- each row's head stands at the first marked column from c row on
pub record HeadsFrom (deps : List ℕ) (todo : List Bool) (c : ℕ → ℕ) (heads : List Head) : Type 0 where
  pub each : (row : ℕ) → row < 7 → HeadAt deps todo row (c row) (col_of heads row) (reach_of heads row)

-- the heads hold
abbrev pub Held : List ℕ → List Bool → List Head → Type 0
Held deps todo heads = HeadsFrom deps todo (col_of heads) heads

-- the columns past both the heads and the prefixes F
abbrev pub past : List Head → List ℕ → ℕ → ℕ
past heads F row = max (col_of heads row) (get_or F row 0)

-- ---- which is ready

-- the slot of a row and column is in the frontier of a head
abbrev pub LeadsTo : Head → ℕ → ℕ → Type 0
LeadsTo head row col = col < get_or head.reach.cols row 0

-- another row's head is in the frontier of this row's
abbrev pub Under : List Head → ℕ → ℕ → Type 0
Under heads row other = LeadsTo (get_or heads row blank_head) other (col_of heads other)

-- the row has a head, and each head in its frontier has it in its own
pub record ReadyRow (heads : List Head) (row : ℕ) : Type 0 where
  pub some : col_of heads row < 32
  pub back : (other : ℕ) → other < 7 → Under heads row other → Under heads other row

-- the lowest row whose head is ready, 7 for none
pub record NextRow (heads : List Head) (row : ℕ) : Type 0 where
  pub small : row ≤ 7
  pub ready : row < 7 → ReadyRow heads row
  pub none : (other : ℕ) → other < row → ReadyRow heads other → ⊥

-- the test b says whether P
pub record Decides (P : Type 0) (b : Bool) : Type 0 where
  pub yes : b ≡ true → P
  pub no : b ≡ false → P → ⊥

-- ---- what is left

-- the marks at or past the heads
unfoldable pub left : List Bool → List Head → List Bool
left todo heads = list_below 224 (λ k. marked todo k && leb (col_of heads (k / 32)) (k % 32))

-- slot k is marked, at or past its row's head and in the prefixes F
abbrev pub Picked : List Bool → List Head → List ℕ → ℕ → Type 0
Picked todo heads F k = (On todo k) × (col_of heads (k / 32) ≤ k % 32) × (In F k)
