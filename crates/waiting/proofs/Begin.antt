-- The call itself: one that is left waiting is root's and goes as its account begins, on the machine with its caller counted, which shows the
-- same cells. The machine that it leaves follows the account. Assumes nothing.
use Rattle.std.proofs.Common.{Bool, true, false, not, true≢false, ◌≡◌, refl, sym, ap, ◌∙◌, subst, List, [], ◌∷◌, ℕ, eqb-true, eqb, length-set}
use Rattle.std.proofs.lemmas.Bool.{false≢true, not-false}
use Rattle.cell_record.specs.declared.CellConfig.{CellConfig}
use Rattle.cell_record.specs.CellRecord.{cell_of}
use Rattle.machine_state.specs.declared.CallKind.{CallKind}
use Rattle.machine_state.specs.declared.Event.{Event}
use Rattle.machine_state.specs.declared.Event.TheVariants.{Call}
use Rattle.machine_state.specs.declared.Answer.{Answer}
use Rattle.machine_state.specs.declared.Machine.{Machine}
use Rattle.machine_state.specs.declared.Stepped.{Stepped}
use Rattle.rules.specs.State.{cell_ids, cpu_at, comm_at, state_at, limit_at, live, with_cpus, with_waiting, answered}
use Rattle.rules.specs.Unobeyed.{is_on, unobeyed}
use Rattle.rules.specs.Effects.{counted, call_counter}
use Rattle.rules.specs.Calls.{call}
use Rattle.rules.specs.Step.{obeyed, step}
use Rattle.rules.specs.Account.{Shown, Account, Place, Asks, Tells, Ended, begun, about_cell, answer_at, ended_at}
use Rattle.rules.specs.Observer.{watched_call, shown_from, shown_by, kind_of_code, target_of}
use Rattle.rules.specs.Run.{happens}
use Rattle.rules.proofs.Cases.{NoneApplies, no_row, step-cases}
use Rattle.rules.specs.Answers.{is_wait}
use Rattle.waiting.specs.Steps.{CallLine, call_line, account, at_call, counted_for, move_of}
use Rattle.waiting.specs.Demand3.{LeftWaiting}
use Rattle.waiting.proofs.Machines.{AllWords, AllCpus, NoneWoken}
use Rattle.waiting.proofs.Moves.{waiting_of, step_for, AtPlace}
use Rattle.waiting.proofs.Calls.{other-ends, Began, call-left}
use Rattle.waiting.proofs.Kept.{kept-counted, owner-same}
use Rattle.waiting.proofs.Others.{word-quiet}
use Rattle.waiting.proofs.Went.{Went, ask_ahead, ask-went}
use Rattle.waiting.proofs.Follows.{Arrives, arrives-before, moved-follows, has-reply}
use Rattle.waiting.proofs.Own.{OwnStep, own-step, cleared}

-- ---- an obeyed call

-- a call that is left waiting is obeyed
record Obeyed (c : CallLine) (m : Machine) (s : Stepped) : Type 0 where
  on : is_on m.power ≡ true
  same : s ≡ call c.cpu c.code c.a1 c.a2 c.bytes (counted call_counter c.cpu m)

unfoldable IfWait : CallLine → Machine → Stepped → Type 0
IfWait c m s = is_wait s.answer ≡ true → Obeyed c m s

word-passes : (c : CallLine) (m : Machine) (answer : Answer) → is_wait answer ≡ false → IfWait c m (answered answer m)
unfolding IfWait answered
word-passes c m answer e t = absurd (false≢true (sym e ∙ t))

obey : (c : CallLine) (m : Machine) → not (is_on m.power) ≡ false
    → IfWait c m (call c.cpu c.code c.a1 c.a2 c.bytes (counted call_counter c.cpu m))
unfolding IfWait
obey c m o t = record { on = not-false (is_on m.power) o; same = refl }

call-obeyed : (c : CallLine) (m : Machine) → IfWait c m (step (Call c.cpu c.code c.a1 c.a2) c.bytes m)
unfolding obeyed unobeyed NoneApplies
call-obeyed c m =
    step-cases (IfWait c m) e c.bytes m (λ w u o. word-passes c m w (word-quiet w u).0) (λ o. obey c m (no_row e m o).0)
  where
    e : Event
    e = Call c.cpu c.code c.a1 c.a2

-- ---- what the call shows and where it goes

shown-counted : (own cpu : ℕ) (m : Machine) (ids : List ℕ) → shown_from (counted own cpu m) ids ≡ shown_from m ids
unfolding shown_from counted with_cpus
shown-counted own cpu m [] = refl
shown-counted own cpu m (id ∷ ids) =
    ap (λ (rest : List Shown). elim (live m id) [
      | true ↦ record { id = id; passive = (comm_at m id).passive; limit = limit_at m id; state = state_at m id } ∷ rest
      | false ↦ rest
    ]) (shown-counted own cpu m ids)

wait-goes-on : (place : Place) → is_wait (answer_at place) ≡ true → ended_at place ≡ false
unfolding is_wait answer_at ended_at
wait-goes-on (Asks c) t = refl
wait-goes-on (Tells c) t = refl
wait-goes-on (Ended code) t = absurd (false≢true t)

module _ (c : CallLine) (m : Machine) (h : AllWords m) (p : AllCpus m) (t : LeftWaiting step c m) where
  -- the machine with the caller counted
  abbrev pub n : Machine
  n = counted call_counter c.cpu m

  abbrev new : CellConfig
  new = cell_of c.bytes

  abbrev kind : CallKind
  kind = kind_of_code c.code

  -- the account
  abbrev pub a : Account
  a = account (at_call step c m)

  abbrev s : Stepped
  s = step (Call c.cpu c.code c.a1 c.a2) c.bytes m

  obeyed-call : Obeyed c m s
  unfolding IfWait
  obeyed-call = call-obeyed c m t

  called-wait : is_wait (call c.cpu c.code c.a1 c.a2 c.bytes n).answer ≡ true
  called-wait = ap (λ (x : Stepped). is_wait x.answer) (sym obeyed-call.same) ∙ t

  pub n-words : AllWords n
  unfolding counted with_cpus
  n-words = h

  n-cpus : AllCpus n
  unfolding counted with_cpus
  n-cpus = length-set m.cpus c.cpu _ ∙ p

  began : Began kind (target_of kind c.a1) new n (call c.cpu c.code c.a1 c.a2 c.bytes n)
  began = call-left c.cpu c.code c.a1 c.a2 c.bytes n n-words called-wait

  a-same : begun kind (target_of kind c.a1) (shown_by n) ≡ a
  unfolding at_call watched_call
  a-same = ap (begun kind (target_of kind c.a1)) (shown-counted call_counter c.cpu m cell_ids)

  call-moves : s ≡ step_for a new n
  call-moves = obeyed-call.same ∙ began.moves ∙ ap (λ (x : Account). step_for x new n) a-same

  pub goes_on : ended_at a.place ≡ false
  unfolding step_for answered
  goes_on = wait-goes-on a.place (ap (λ (x : Stepped). is_wait x.answer) (sym call-moves) ∙ t)

  -- the cell that it is about
  abbrev about : ℕ
  about = about_cell kind (target_of kind c.a1) (shown_by n)

  went : Went n kind about (ask_ahead kind about 0) 0 a
  unfolding begun
  went = subst (Went n kind about (ask_ahead kind about 0) 0) a-same (ask-went n kind about 0)

  -- the same of the account's own kind and target
  pub went_call : Went n a.kind a.target (ask_ahead a.kind a.target 0) 0 a
  went_call =
      subst (λ (x : Account). Went n x.kind x.target (ask_ahead x.kind x.target 0) 0 a) (sym went.same) went

  -- a call of another CPU would have ended at once
  not-other : eqb (cpu_at n c.cpu).cell 0 ≡ false → false ≡ true
  unfolding answered is_wait
  not-other e =
      sym (ap (λ (x : Stepped). is_wait x.answer) (other-ends c.cpu c.code c.a1 c.a2 c.bytes n e).same) ∙ called-wait

  pub root : (cpu_at m c.cpu).cell ≡ 0
  root = eqb-true (cpu_at m c.cpu).cell 0 (go (eqb (cpu_at m c.cpu).cell 0) refl)
    where
      go : (b : Bool) → eqb (cpu_at m c.cpu).cell 0 ≡ b → b ≡ true
      go true e = refl
      go false e = not-other (ap (λ (k : ℕ). eqb k 0) (owner-same m n c.cpu (kept-counted call_counter c.cpu m).table) ∙ e)

  -- ---- the machine that it leaves

  pub n-woken : NoneWoken m n
  n-woken = (kept-counted call_counter c.cpu m).woken

  abbrev leaving : Account → Machine
  leaving x = with_waiting (waiting_of x) (move_of x new n)

  leaves : Arrives n (leaving a) (record { account = a; reply = 0 })
  unfolding counted with_cpus
  leaves =
      subst (λ (x : Account). Arrives n (leaving x) (record { account = x; reply = 0 })) (sym went.same)
      (moved-follows kind about (ask_ahead kind about 0) new n n-words n-cpus obeyed-call.on began.small went.effect went.place went.fit
      (ap (λ (x : Account). ended_at x.place) (sym went.same) ∙ goes_on))

  pub call-arrives : Arrives m (at_call step c m).machine (at_call step c m).watch
  unfolding at_call watched_call step_for answered
  call-arrives =
      arrives-before m n _ _ n-woken (subst (λ (x : Stepped). Arrives n x.machine (record { account = a; reply = 0 })) (sym call-moves) leaves)

  pub call-own : OwnStep c (happens step (call_line c) m) a
  unfolding counted_for at_call watched_call
  call-own =
      own-step c (call_line c) m a call-moves n-words n-cpus (kept-counted call_counter c.cpu m).table
      (λ e. absurd (true≢false (sym (ap (λ (x : Account). x.moved) went.same) ∙ e)))
      (cleared a s.machine (λ e g. has-reply s.machine a.target a.place 0 place))
    where
      place : AtPlace s.machine a.target a.place 0
      place = call-arrives.follows.place
