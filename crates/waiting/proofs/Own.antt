-- A call's own steps: a step that goes as the account's move has the account's answer, waits as it does, leaves the machine that the move makes,
-- and keeps the table where the effect does not come with it. A poll of a machine that follows the account is such a step, and the machine that it
-- leaves follows the account again, until the end. Assumes nothing.
use Rattle.std.proofs.Common.{Bool, true, false, not, true≢false, ◌≡◌, refl, sym, ap, ◌∙◌, subst, inl, inr, List, [], ℕ, ◌+◌, ◌≤◌, arith, eqb, pos, negsuc}
use Rattle.std.proofs.lemmas.Bool.{false≢true}
use Rattle.base.specs.Lists.{all}
use Rattle.base.proofs.Rules.{rule-passed, no-rule}
use Rattle.cell_record.specs.declared.CellConfig.{CellConfig}
use Rattle.cell_record.specs.CellRecord.{cell_of}
use Rattle.machine_state.specs.declared.CallKind.{CallKind}
use Rattle.machine_state.specs.declared.CallKind.TheVariants.{Disable, Create, Start, SetLoadable, Destroy}
use Rattle.machine_state.specs.Machine.{Waiting}
use Rattle.machine_state.specs.declared.Event.TheVariants.{Poll}
use Rattle.machine_state.specs.declared.Machine.{Machine}
use Rattle.machine_state.specs.declared.Stepped.{Stepped}
use Rattle.rules.specs.State.{comm_at, waits, with_comm, with_waiting, answered}
use Rattle.rules.specs.Unobeyed.{is_on, unobeyed, off, idle}
use Rattle.rules.specs.Effects.{effect}
use Rattle.rules.specs.Asking.{asks, with_polls, poll}
use Rattle.rules.specs.Step.{obeyed, step}
use Rattle.rules.specs.Account.{Account, Place, Asks, Tells, Ended, moves_to, cutting, polled, answer_of, ended_at, waited_at}
use Rattle.rules.specs.Observer.{Watched, watched_poll, shown_by}
use Rattle.rules.specs.Run.{Line, Happened, happens}
use Rattle.waiting.specs.Steps.{CallLine, poll_line, messaged_at, cut_from, account_effect, move_of, counted_for, but_waiting, CellTable, cell_table_of, cell_of_place, messaged_with, times_with}
use Rattle.waiting.specs.Demand3.{AnswersAsAccount, WaitsAsAccount, MovesAsAccount, CountsOnly, KeepsTable, FromCleared, times_due}
use Rattle.waiting.proofs.Machines.{AllWords, AllCpus}
use Rattle.waiting.proofs.Moves.{waiting_at, waiting_of, step_for, AtPlace, poll-moves}
use Rattle.waiting.proofs.Kept.{cut-still}
use Rattle.waiting.proofs.Went.{KindAt, Heard, Polled, to_come, poll-went}
use Rattle.waiting.proofs.Follows.{Follows, Left, arrives-before, arrives-cut, arrives-left, moved-follows, stays-left, has-reply}

-- ---- a step that goes as the account's move

waits-at : (kind : CallKind) (target : ℕ) (place : Place) (polls : ℕ) → waits (waiting_at kind target place polls) ≡ not (ended_at place)
unfolding waiting_at ended_at
waits-at kind target (Asks c) polls = refl
waits-at kind target (Tells c) polls = refl
waits-at kind target (Ended code) polls = refl

-- the waiting call with another count
polls-at : (kind : CallKind) (target : ℕ) (place : Place) (polls more : ℕ) → with_polls more (waiting_at kind target place polls) ≡ waiting_at kind target place more
unfolding with_polls waiting_at
polls-at kind target (Asks c) polls more = refl
polls-at kind target (Tells c) polls more = refl
polls-at kind target (Ended code) polls more = refl

messaged-table : (place : Place) (m : Machine) → cell_table_of (messaged_at place m) ≡ cell_table_of m
unfolding messaged_at cell_table_of with_comm
messaged-table (Asks c) m = refl
messaged-table (Tells c) m = refl
messaged-table (Ended code) m = refl

move-table : (a : Account) (new : CellConfig) (m : Machine) → AllWords m → AllCpus m → a.effect ≡ false → cell_table_of (move_of a new m) ≡ cell_table_of m
unfolding move_of account_effect
move-table a new m h p e = go a.moved a.effect e ∙ (cut-still a.cut m h p).table
  where
    cut : Machine
    cut = cut_from a.cut m

    base : Bool → Machine
    base b = elim b [ true ↦ effect a.kind a.target new cut | false ↦ cut ]

    go : (moved b : Bool) → b ≡ false → cell_table_of (elim moved [ true ↦ messaged_at a.place (base b) | false ↦ base b ]) ≡ cell_table_of cut
    go moved true f = absurd (true≢false f)
    go true false f = messaged-table a.place cut
    go false false f = refl

-- what is claimed of an own step
pub record OwnStep (c : CallLine) (h : Happened) (a : Account) : Type 0 where
  pub answers : AnswersAsAccount h a
  pub end : WaitsAsAccount h a
  pub effect : MovesAsAccount c h a
  pub frame : KeepsTable h a
  pub counts : CountsOnly h a
  pub messages : FromCleared h a

pub own-step : (c : CallLine) (l : Line) (m : Machine) (a : Account)
    → step l.event l.bytes m ≡ step_for a (cell_of c.bytes) (counted_for l.event m)
    → AllWords (counted_for l.event m) → AllCpus (counted_for l.event m) → cell_table_of (counted_for l.event m) ≡ cell_table_of m
    → CountsOnly (happens step l m) a → FromCleared (happens step l m) a → OwnStep c (happens step l m) a
unfolding step_for answered with_waiting cell_table_of
own-step c l m a e h p t k f = record {
  answers = ap (λ (s : Stepped). s.answer) e;
  end = ap (λ (s : Stepped). waits s.machine.waiting) e ∙ waits-at a.kind a.target a.place a.polls;
  effect = ap (λ (s : Stepped). but_waiting s.machine) e;
  frame = λ q. ap (λ (s : Stepped). cell_table_of s.machine) e ∙ move-table a (cell_of c.bytes) (counted_for l.event m) h p q ∙ t;
  counts = k;
  messages = f;
}

-- a place's cell has its `from` cleared
pub cleared : (a : Account) (n : Machine)
    → (a.moved ≡ true → ended_at a.place ≡ false → 0 ≡ (comm_at n (waited_at a.place)).reply_from_cell)
    → all (λ id. eqb (comm_at n id).reply_from_cell 0) (messaged_with a) ≡ true
unfolding messaged_with cell_of_place ended_at waited_at
cleared a n f = go a.moved a.place f
  where
    go : (moved : Bool) (place : Place) → (moved ≡ true → ended_at place ≡ false → 0 ≡ (comm_at n (waited_at place)).reply_from_cell)
        → all (λ id. eqb (comm_at n id).reply_from_cell 0) (elim moved [ true ↦ cell_of_place place | false ↦ [] ]) ≡ true
    go true (Asks c) g = rw (← (g refl refl))
    go true (Tells c) g = rw (← (g refl refl))
    go true (Ended code) g = refl
    go false place g = refl

-- ---- a poll

-- a machine that follows the account has a call waiting
pub follows-waits : (m : Machine) (w : Watched) → Follows m w → (waits m.waiting ≡ true) × (ended_at w.account.place ≡ false)
unfolding AtPlace waiting_at ended_at
follows-waits m w f = go w.account.place f.place (ap waits f.waiting)
  where
    go : (place : Place) → AtPlace m w.account.target place w.reply → waits m.waiting ≡ waits (waiting_at w.account.kind w.account.target place w.account.polls)
        → (waits m.waiting ≡ true) × (ended_at place ≡ false)
    go (Asks c) p e = (e, refl)
    go (Tells c) p e = (e, refl)
    go (Ended code) p e = absurd p

-- what Create's record says matters to Create alone, which asks nobody
effect-any : (kind : CallKind) (target c : ℕ) (new old : CellConfig) (m : Machine) → asks kind target c ≡ true
    → effect kind target new m ≡ effect kind target old m
unfolding effect asks
effect-any Disable target c new old m e = refl
effect-any Create target c new old m e = absurd (false≢true e)
effect-any Start target c new old m e = refl
effect-any SetLoadable target c new old m e = refl
effect-any Destroy target c new old m e = refl

due-one : (place : Place) → times_due place ≤ 1
unfolding times_due
due-one (Asks c) = omega arith
due-one (Tells c) = omega arith
due-one (Ended (pos n)) = omega arith
due-one (Ended (negsuc n)) = omega arith

any-effect : (kind : CallKind) (target : ℕ) (place there : Place) (comes : Bool) (new old : CellConfig) (m : Machine) → KindAt kind target place
    → ended_at place ≡ false → times_due there ≡ times_due place + times_with (moves_to kind target comes there)
    → account_effect (moves_to kind target comes there) new m ≡ account_effect (moves_to kind target comes there) old m
unfolding KindAt times_due times_with account_effect ended_at
any-effect kind target place there false new old m k n d = refl
any-effect kind target (Asks c) there true new old m k n d = effect-any kind target c new old m k
any-effect kind target (Tells c) there true new old m k n d = absurd (omega (arith, due-one there))
any-effect kind target (Ended code) there true new old m k n d = absurd (true≢false n)

module _ (m : Machine) (w : Watched) (f : Follows m w) where
  abbrev a : Account
  a = w.account

  abbrev b : Account
  b = polled a w.reply (shown_by m)

  abbrev Gone : Type 0
  Gone = Polled m a.kind a.target a.place w.reply a b

  gone : Gone
  gone = poll-went m a w.reply f.all_words f.place f.kind

  poll-obeyed : (bytes : List ℕ) → step Poll bytes m ≡ poll m.waiting (cell_of bytes) m
  unfolding step unobeyed obeyed
  poll-obeyed bytes =
      sym (rule-passed (off m) _ _ (ap not f.on)) ∙ sym (rule-passed (idle m) _ _ (ap not (follows-waits m w f).0)) ∙ sym (no-rule _)

  -- the move that it made where the cell was heard
  went-as : (g : Heard m a.kind a.target (to_come a.kind a.target a.place) (times_due a.place) b)
      → b ≡ cutting g.cut (moves_to a.kind a.target g.went.effect g.went.place)
  went-as g = g.same ∙ ap (cutting g.cut) g.went.same

  move-any : (new old : CellConfig) → move_of b new m ≡ move_of b old m
  unfolding move_of cut_from account_effect Polled
  move-any new old = go gone
    where
      go : Gone → move_of b new m ≡ move_of b old m
      go (inl p) = ap (λ (x : Account). move_of x new m) p.1 ∙ sym (ap (λ (x : Account). move_of x old m) p.1)
      go (inr p) =
          let g = p.1 in
          ap (λ (x : Account). move_of x new m) (went-as g)
          ∙ ap (messaged_at g.went.place)
          (any-effect a.kind a.target a.place g.went.place g.went.effect new old (cut_from g.cut m) f.kind (follows-waits m w f).1 g.went.due)
          ∙ sym (ap (λ (x : Account). move_of x old m) (went-as g))

  poll-step : (bytes : List ℕ) (new : CellConfig) → step Poll bytes m ≡ step_for b new m
  unfolding step_for
  poll-step bytes new =
      poll-obeyed bytes ∙ poll-moves a w.reply (cell_of bytes) m f.all_words f.small f.place f.waiting
      ∙ ap (λ (n : Machine). answered (answer_of b) (with_waiting (waiting_of b) n)) (move-any (cell_of bytes) new)

  -- after it the machine follows the account again, until the account ends; and no cell has woken
  abbrev seen_as : Account → Watched
  seen_as x = record { account = x; reply = elim x.moved [ true ↦ 0 | false ↦ w.reply ] }

  abbrev Leaves : Account → Machine → Type 0
  Leaves x n = Left m n (waited_at a.place) (seen_as x)

  leaves : (new : CellConfig) → ended_at b.place ≡ false → Leaves b (with_waiting (waiting_of b) (move_of b new m))
  unfolding Polled move_of cut_from account_effect with_waiting cell_table_of
  leaves new n = go gone
    where
      left : Account → Machine
      left x = with_waiting (waiting_of x) (move_of x new m)

      go : Gone → Leaves b (left b)
      go (inl p) = subst (λ (x : Account). Leaves x (left x)) (sym p.1) (stays-left _ m w f)
      go (inr p) =
          let g = p.1 in
          let on-it = cut-still g.cut m f.all_words f.all_cpus in
          let goes_on : ended_at g.went.place ≡ false = ap (λ (x : Account). ended_at x.place) (sym (went-as g)) ∙ n in
          subst (λ (x : Account). Leaves x (left x)) (sym (went-as g))
          (arrives-left m _ _ _
          (arrives-cut g.cut m _ _ 0
          (arrives-before m (cut_from g.cut m) _ _ on-it.woken
          (moved-follows a.kind a.target (to_come a.kind a.target a.place) new (cut_from g.cut m) on-it.all_words on-it.all_cpus
          (ap (λ (t : CellTable). is_on t.power) on-it.table ∙ f.on) f.small g.went.effect g.went.place g.went.fit goes_on))))

  pub poll-leaves : (bytes : List ℕ) → ended_at b.place ≡ false → Left m (step Poll bytes m).machine (waited_at w.account.place) (watched_poll w m)
  unfolding watched_poll step_for answered
  poll-leaves bytes n = subst (λ (s : Stepped). Leaves b s.machine) (sym (poll-step bytes (cell_of bytes))) (leaves (cell_of bytes) n)

  -- where the account stays, only its count changes
  stays-counts : (bytes : List ℕ) → CountsOnly (happens step (poll_line bytes) m) b
  unfolding Polled step_for answered move_of cut_from account_effect
  stays-counts bytes e = ap (λ (s : Stepped). s.machine) (poll-step bytes (cell_of bytes)) ∙ go gone
    where
      new : CellConfig
      new = cell_of bytes

      go : Gone → with_waiting (waiting_of b) (move_of b new m) ≡ with_waiting (with_polls b.polls m.waiting) m
      go (inl p) =
          ap (λ (x : Account). with_waiting (waiting_of x) (move_of x new m)) p.1
          ∙ ap (λ (x : Waiting). with_waiting x m)
          (sym (ap (λ (x : Account). with_polls x.polls m.waiting) p.1 ∙ ap (with_polls _) f.waiting ∙ polls-at a.kind a.target a.place a.polls _))
      go (inr p) = absurd (true≢false (sym (ap (λ (x : Account). x.moved) (went-as p.1)) ∙ e))

  pub poll-own : (c : CallLine) (bytes : List ℕ) → OwnStep c (happens step (poll_line bytes) m) b
  unfolding counted_for watched_poll
  poll-own c bytes =
      own-step c (poll_line bytes) m b (poll-step bytes (cell_of c.bytes)) f.all_words f.all_cpus refl (stays-counts bytes)
      (cleared b left (λ e n. sym (fresh e) ∙ same n))
    where
      left : Machine
      left = (step Poll bytes m).machine

      fresh : b.moved ≡ true → (watched_poll w m).reply ≡ 0
      fresh e = ap (λ (x : Bool). elim x [ true ↦ 0 | false ↦ w.reply ]) e

      same : ended_at b.place ≡ false → (watched_poll w m).reply ≡ (comm_at left (waited_at b.place)).reply_from_cell
      same n = has-reply left b.target b.place (watched_poll w m).reply (poll-leaves bytes n).follows.place
