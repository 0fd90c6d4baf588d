-- A cell without a reply limit is polled as if there were none: no poll is its last, and none is counted. Assumes nothing.
use Rattle.std.proofs.Common.{Bool, true, false, not, ◌&&◌, ◌||◌, ◌≡◌, refl, sym, ap, ◌∙◌, ℕ, Some}
use Rattle.cell_record.specs.declared.CellConfig.{CellConfig}
use Rattle.machine_state.specs.declared.CallKind.{CallKind}
use Rattle.machine_state.specs.declared.Stage.{Stage}
use Rattle.machine_state.specs.Machine.{Waiting}
use Rattle.machine_state.specs.declared.Answer.TheVariants.{Wait}
use Rattle.machine_state.specs.declared.Machine.{Machine}
use Rattle.machine_state.specs.declared.Stepped.{Stepped}
use Rattle.rules.specs.State.{comm_at, limit_at, with_waiting, answered}
use Rattle.rules.specs.Effects.{cell_cut_off}
use Rattle.rules.specs.Asking.{is_heard, hear, is_last_poll, polls_after, with_polls, cuts_off, hears_at, heard_at, still_waits, poll_cell}

module _ (kind : CallKind) (stage : Stage) (new : CellConfig) (m : Machine) where
  -- the poll, by whether the cell is heard and by its limit
  polled : Bool → ℕ → Stepped
  polled b limit =
      elim (b || (not b && is_last_poll limit stage.polls)) [
        | true ↦ hear kind stage new (elim (not b && is_last_poll limit stage.polls) [ true ↦ cell_cut_off stage.cell m | false ↦ m ])
        | false ↦ answered (Wait stage.cell) (with_waiting (with_polls (polls_after limit stage.polls) (Some (kind, stage))) m)
      ]

  pub unlimited : limit_at m stage.cell ≡ 0 → m.waiting ≡ Some (kind, stage)
      → poll_cell kind stage new m ≡ elim (is_heard (comm_at m stage.cell)) [ true ↦ hear kind stage new m | false ↦ answered (Wait stage.cell) m ]
  unfolding polled poll_cell hears_at heard_at cuts_off is_last_poll still_waits polls_after with_polls with_waiting
  unlimited none waits = ap (polled (is_heard (comm_at m stage.cell))) none ∙ go (is_heard (comm_at m stage.cell))
    where
      go : (b : Bool) → polled b 0 ≡ elim b [ true ↦ hear kind stage new m | false ↦ answered (Wait stage.cell) m ]
      go true = refl
      go false = ap (λ (w : Waiting). answered (Wait stage.cell) (with_waiting w m)) (sym waits)
