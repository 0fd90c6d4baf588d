-- The codes of the calls: what each asks for.
use Rattle.std.specs.Prelude.{◌≡◌, ℕ, ◌<◌, Result, MatchResult}
use Rattle.machine_state.specs.declared.CallCode.{CallCode}
use Rattle.machine_state.specs.declared.CallCode.TheVariants.{HypervisorDisable, CellCreate, CellStart, CellSetLoadable, CellDestroy, HypervisorGetInfo, CellGetState, CpuGetInfo}
use Rattle.machine_state.specs.declared.UnknownCall.{UnknownCall}

-- the code of a call
abbrev pub call_number : CallCode → ℕ
call_number HypervisorDisable = 0
call_number CellCreate = 1
call_number CellStart = 2
call_number CellSetLoadable = 3
call_number CellDestroy = 4
call_number HypervisorGetInfo = 5
call_number CellGetState = 6
call_number CpuGetInfo = 7

-- the call with this code, or the code, where no call has it
abbrev pub DecodesCall : ℕ → Result CallCode UnknownCall → Type 0
DecodesCall code r = MatchResult r (λ call. call_number call ≡ code) (λ e. (e.0 ≡ code) × (7 < code))
