-- Whose line can come next while lines are left.
use Rattle.std.specs.Prelude.{◌≡◌, ℕ, ◌<◌, true, List, length, Some}
use Rattle.vx_base.specs.declared.call.Call.{Call}
use Rattle.vx_base.specs.Lines.{line_after}
use Rattle.vx_grammar.specs.Orders.{is_met_by}

-- a session whose next line is there, and waits for none that is not answered
pub record HasNextLine (lines : List (List Call)) (answered : ℕ → ℕ) : Type 0 where
  pub session : ℕ
  pub among : session < length lines
  pub met : is_met_by answered (line_after lines session (answered session)) ≡ true

-- however many lines each session has answered: as long as one of them has a line left, some session's next line can come
abbrev pub AlwaysHasNextLine : List (List Call) → Type 0
AlwaysHasNextLine lines = (answered : ℕ → ℕ) (session : ℕ) (line : Call) → line_after lines session (answered session) ≡ Some line → HasNextLine lines answered
