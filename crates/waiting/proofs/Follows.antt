-- The machine follows the account: while the account has not ended, the waiting call is the account's, with its count, the cell waited for is live, and the
-- observer has its `from`. A move of the account leads to such a machine, a poll that hears nothing and an event of others keep it. No step of a call
-- that goes on wakes a cell. Assumes nothing.
use Rattle.std.proofs.Common.{Bool, true, false, not, ◌&&◌, true≢false, ◌≡◌, refl, sym, ap, ap₂, ◌∙◌, subst, ℕ, ◌<◌, ◌≤◌, arith, eq-eqb, eqb, length, Option}
use Rattle.std.proofs.lemmas.Bool.{and_parts, eqb-false, false≢true, not-true}
use Rattle.std.proofs.Math.ListN.{length-map}
use Rattle.base.proofs.Tests.{is_true, is_false}
use Rattle.cell_record.specs.declared.CellConfig.{CellConfig}
use Rattle.machine_state.specs.declared.CommRegion.{CommRegion}
use Rattle.machine_state.specs.declared.CallKind.{CallKind}
use Rattle.machine_state.specs.declared.CallKind.TheVariants.{Disable, Create, Start, SetLoadable, Destroy}
use Rattle.machine_state.specs.declared.Event.{Event}
use Rattle.machine_state.specs.Machine.{Waiting}
use Rattle.machine_state.specs.declared.Machine.{Machine}
use Rattle.machine_state.specs.declared.Stepped.{Stepped}
use Rattle.rules.specs.State.{comm_at, limit_at, has_id, live, active, with_comm, with_waiting, with_pool, with_ids, with_root_cpus, with_cpus, with_cell}
use Rattle.rules.specs.Unobeyed.{is_on}
use Rattle.rules.specs.Effects.{effect, cell_created, cell_destroyed, cpus_changed}
use Rattle.rules.specs.Asking.{may_be_messaged, message, shutdown_request, reconfig_completed, tells}
use Rattle.rules.specs.Account.{Account, Place, Asks, Tells, Ended, moves_to, cutting, stays_with, remains, ended_at, waited_at}
use Rattle.rules.specs.Observer.{Watched, watched}
use Rattle.waiting.specs.Steps.{cell_table_of, CellTable, owner_in, messaged_at, cut_from, account_effect, move_of}
use Rattle.waiting.proofs.Shown.{live-lt}
use Rattle.waiting.proofs.Machines.{AllWords, AllCpus, comm-same, all-words-with, NoneWoken, woken-same, woken-trans, words-woken, effect-may, effect-other, effect-all-words, effect-all-cpus}
use Rattle.waiting.proofs.Moves.{waiting_at, waiting_of, Heeds, AtPlace}
use Rattle.waiting.proofs.Kept.{Kept}
use Rattle.waiting.proofs.Stores.{Other}
use Rattle.waiting.proofs.Went.{Fit, KindAt}

pub record Follows (m : Machine) (w : Watched) : Type 0 where
  pub all_words : AllWords m
  pub all_cpus : AllCpus m
  pub on : is_on m.power ≡ true
  pub small : w.account.target < 16
  pub waiting : m.waiting ≡ waiting_of w.account
  pub place : AtPlace m w.account.target w.account.place w.reply
  pub kind : KindAt w.account.kind w.account.target w.account.place

-- ---- who may be messaged is live, and not root

pub may-live : (m : Machine) (id : ℕ) → may_be_messaged m id ≡ true → live m id ≡ true
unfolding may_be_messaged active
may-live m id t = (and_parts (not (eqb id 0)) (live m id) ((and_parts (not (eqb id 0) && live m id) _ ((and_parts _ (not (comm_at m id).passive) t).0)).0)).1

may-low : (m : Machine) (id : ℕ) → may_be_messaged m id ≡ true → 1 ≤ id
unfolding may_be_messaged active
may-low m id t =
    above id (eqb-false id 0 (not-true _ ((and_parts (not (eqb id 0)) (live m id) ((and_parts (not (eqb id 0) && live m id) _ ((and_parts _ (not (comm_at m id).passive) t).0)).0)).0)))
  where
    above : (n : ℕ) → (n ≡ 0 → ⊥) → 1 ≤ n
    above n f = omega arith

-- ---- a move

-- a machine that the account has moved on, with the cell waited for messaged
record Arrived (e : Machine) (c : ℕ) (n : Machine) : Type 0 where
  all_words : AllWords n
  heeds : Heeds n c 0
  woken : NoneWoken e n
  limit : limit_at n c ≡ limit_at e c

arrive : (e : Machine) (c code : ℕ) (w : Waiting) → AllWords e → may_be_messaged e c ≡ true
    → Arrived e c (with_waiting w (with_comm c (message code (comm_at e c)) e))
unfolding with_waiting with_comm message NoneWoken may_be_messaged active
arrive e c code w h t = record {
  all_words = all-words-with e c _ h;
  heeds = record {
    low = may-low e c t;
    alive = alive;
    same = sym (ap (λ (d : CommRegion). d.reply_from_cell) (comm-same e c (message code (comm_at e c)) inside));
  };
  woken = words-woken e c (message code (comm_at e c)) refl refl (λ x. x);
  limit = ap (λ (d : CommRegion). d.reply_limit) (comm-same e c (message code (comm_at e c)) inside);
}
  where
    alive : live e c ≡ true
    alive = may-live e c t

    inside : c < length e.comms
    inside = subst (λ (n : ℕ). c < n) (sym h) (live-lt e c alive)

-- a cell that may not be messaged does not become one that may
stays_out : (m n : Machine) (id : ℕ) → NoneWoken m n → may_be_messaged m id ≡ false → may_be_messaged n id ≡ false
unfolding NoneWoken
stays_out m n id f e = is_false (may_be_messaged n id) (λ t. true≢false (sym (f id (is_true (may_be_messaged n id) t)).0 ∙ e))

-- the effect of a call that tells: it wakes nobody, and its target may not be messaged
module _ (kind : CallKind) (target : ℕ) (new : CellConfig) (m : Machine) (h : AllWords m) (l : target < 16) (t : tells kind ≡ true) where
  effect-woken : NoneWoken m (effect kind target new m)
  unfolding NoneWoken
  effect-woken id e = (
    (and_parts (remains target id) (may_be_messaged m id) both).1,
    ap (λ (d : CommRegion). d.reply_limit)
        (effect-other kind target new m id t (eqb-false id target (not-true (eqb id target) ((and_parts (remains target id) (may_be_messaged m id) both).0)))),
  )
    where
      both : (remains target id && may_be_messaged m id) ≡ true
      both = sym (effect-may kind target new m id h l t) ∙ e

  effect-gone : may_be_messaged (effect kind target new m) target ≡ false
  effect-gone =
      effect-may kind target new m target h l t ∙ ap (λ (b : Bool). not b && may_be_messaged m target) (eq-eqb target target refl)

  effect-may-be : (c : ℕ) → remains target c ≡ true → may_be_messaged m c ≡ true → may_be_messaged (effect kind target new m) c ≡ true
  effect-may-be c e f = effect-may kind target new m c h l t ∙ ap₂ (λ (x y : Bool). x && y) e f

effect-power : (kind : CallKind) (target : ℕ) (new : CellConfig) (m : Machine) → tells kind ≡ true → (effect kind target new m).power ≡ m.power
unfolding effect cell_created cell_destroyed cpus_changed with_pool with_ids with_root_cpus with_cpus with_cell with_comm
effect-power Disable target new m t = absurd (false≢true t)
effect-power Create target new m t = refl
effect-power Start target new m t = absurd (false≢true t)
effect-power SetLoadable target new m t = absurd (false≢true t)
effect-power Destroy target new m t = refl

-- the machine that a move leaves
abbrev pub moved_to : CallKind → ℕ → Bool → Place → CellConfig → Machine → Machine
moved_to kind target effect place new m = with_waiting (waiting_at kind target place 0) (move_of (moves_to kind target effect place) new m)

-- a machine n that follows the account at a cell that might be messaged before: no cell has woken, and it has the limit that it had
pub record Arrives (m n : Machine) (w : Watched) : Type 0 where
  pub follows : Follows n w
  pub woken : NoneWoken m n
  pub may : may_be_messaged m (waited_at w.account.place) ≡ true
  pub limit : limit_at n (waited_at w.account.place) ≡ limit_at m (waited_at w.account.place)

-- the same from a machine before it, from which no cell has woken
pub arrives-before : (l m n : Machine) (w : Watched) → NoneWoken l m → Arrives m n w → Arrives l n w
unfolding NoneWoken
arrives-before l m n w f k = record {
  follows = k.follows;
  woken = woken-trans l m n f k.woken;
  may = (f (waited_at w.account.place) k.may).0;
  limit = k.limit ∙ (f (waited_at w.account.place) k.may).1;
}

-- a cell that was cut off on the way is no matter of the machine that is left
pub arrives-cut : (cut : Option ℕ) (m n : Machine) (a : Account) (reply : ℕ) → Arrives m n (record { account = a; reply = reply })
    → Arrives m n (record { account = cutting cut a; reply = reply })
arrives-cut cut m n a reply l = record {
  follows = record {
    all_words = l.follows.all_words;
    all_cpus = l.follows.all_cpus;
    on = l.follows.on;
    small = l.follows.small;
    waiting = l.follows.waiting;
    place = l.follows.place;
    kind = l.follows.kind;
  };
  woken = l.woken;
  may = l.may;
  limit = l.limit;
}

-- a machine n that a poll leaves: where the cell waited for before had its limit of a machine l, so has the one waited for now
pub record Left (m n : Machine) (old : ℕ) (w : Watched) : Type 0 where
  pub follows : Follows n w
  pub woken : NoneWoken m n
  pub limit :
      (l : Machine) → NoneWoken l m → limit_at m old ≡ limit_at l old → limit_at n (waited_at w.account.place) ≡ limit_at l (waited_at w.account.place)

pub arrives-left : (m n : Machine) (old : ℕ) (w : Watched) → Arrives m n w → Left m n old w
unfolding NoneWoken
arrives-left m n old w k = record {
  follows = k.follows;
  woken = k.woken;
  limit = λ l f e. k.limit ∙ (f (waited_at w.account.place) k.may).1;
}

module _ (kind : CallKind) (target : ℕ) (before : ℕ → Bool) (new : CellConfig) (m : Machine) (h : AllWords m) (p : AllCpus m) (o : is_on m.power ≡ true)
    (l : target < 16) where
  abbrev pub Moved : Bool → Place → Machine → Type 0
  Moved effect place n = Arrives m n (record { account = moves_to kind target effect place; reply = 0 })

  to-tell : (c : ℕ) (effect : Bool) (e : Machine) → AllWords e → AllCpus e → is_on e.power ≡ true → tells kind ≡ true → may_be_messaged e c ≡ true
      → may_be_messaged e target ≡ false → NoneWoken m e
      → Moved effect (Tells c) (with_waiting (waiting_at kind target (Tells c) 0) (with_comm c (message reconfig_completed (comm_at e c)) e))
  unfolding AtPlace KindAt with_waiting with_comm waited_at NoneWoken
  to-tell c effect e k q on t f g w = record {
    follows = record {
      all_words = there.all_words;
      all_cpus = q;
      on = on;
      small = l;
      waiting = refl;
      place = (there.heeds, stays_out e _ target there.woken g);
      kind = t;
    };
    woken = woken-trans m e _ w there.woken;
    may = (w c f).0;
    limit = there.limit ∙ (w c f).1;
  }
    where
      there : Arrived e c (with_waiting (waiting_at kind target (Tells c) 0) (with_comm c (message reconfig_completed (comm_at e c)) e))
      there = arrive e c reconfig_completed (waiting_at kind target (Tells c) 0) k f

  pub moved-follows : (effect : Bool) (place : Place) → Fit m kind target before effect place → ended_at place ≡ false
      → Moved effect place (moved_to kind target effect place new m)
  unfolding Fit ended_at move_of cut_from account_effect messaged_at AtPlace KindAt with_waiting with_comm waited_at
  moved-follows true (Asks c) f n = absurd (true≢false f.without)
  moved-follows false (Asks c) f n = record {
    follows = record { all_words = there.all_words; all_cpus = p; on = o; small = l; waiting = refl; place = there.heeds; kind = f.asked };
    woken = there.woken;
    may = f.may;
    limit = there.limit;
  }
    where
      there : Arrived m c (with_waiting (waiting_at kind target (Asks c) 0) (with_comm c (message shutdown_request (comm_at m c)) m))
      there = arrive m c shutdown_request (waiting_at kind target (Asks c) 0) h f.may
  moved-follows true (Tells c) f n =
      to-tell c true (effect kind target new m) (effect-all-words kind target new m h f.told) (effect-all-cpus kind target new m f.told)
      (ap is_on (effect-power kind target new m f.told) ∙ o) f.told
      (effect-may-be kind target new m h l f.told c f.remaining f.may) (effect-gone kind target new m h l f.told)
      (effect-woken kind target new m h l f.told)
  moved-follows false (Tells c) f n = to-tell c false m h p o f.told f.may (f.gone refl) (woken-same m)
  moved-follows effect (Ended code) f n = absurd (true≢false n)

-- ---- a poll that hears nothing, and an event of others

place-waiting : (x : Waiting) (m : Machine) (target : ℕ) (place : Place) (reply : ℕ) → AtPlace m target place reply → AtPlace (with_waiting x m) target place reply
unfolding AtPlace with_waiting may_be_messaged active
place-waiting x m target (Asks c) reply w = record { low = w.low; alive = w.alive; same = w.same }
place-waiting x m target (Tells c) reply w = (record { low = w.0.low; alive = w.0.alive; same = w.0.same }, w.1)
place-waiting x m target (Ended code) reply w = absurd w

-- the account stays where it is, with another count, which the waiting call has
pub stays-left : (polls : ℕ) (m : Machine) (w : Watched) → Follows m w
    → Left m (with_waiting (waiting_of (stays_with polls w.account)) m) (waited_at w.account.place) (record { account = stays_with polls w.account; reply = w.reply })
unfolding with_waiting NoneWoken may_be_messaged active
stays-left polls m w f = record {
  follows = record {
    all_words = f.all_words;
    all_cpus = f.all_cpus;
    on = f.on;
    small = f.small;
    waiting = refl;
    place = place-waiting (waiting_of (stays_with polls w.account)) m w.account.target w.account.place w.reply f.place;
    kind = f.kind;
  };
  woken = woken-same m;
  limit = λ l k e. e;
}

-- the observer has the waited cell's `from`
pub has-reply : (m : Machine) (target : ℕ) (place : Place) (reply : ℕ) → AtPlace m target place reply → reply ≡ (comm_at m (waited_at place)).reply_from_cell
unfolding AtPlace waited_at
has-reply m target (Asks c) reply w = w.same
has-reply m target (Tells c) reply w = w.0.same
has-reply m target (Ended code) reply w = absurd w

place_kept : (m n : Machine) (target : ℕ) (place : Place) (reply : ℕ) → Kept m n → AtPlace m target place reply
    → AtPlace n target place (comm_at n (waited_at place)).reply_from_cell
unfolding AtPlace waited_at cell_table_of
place_kept m n target (Asks c) reply k w = record { low = w.low; alive = ap (λ (t : CellTable). has_id t.live c) k.table ∙ w.alive; same = refl }
place_kept m n target (Tells c) reply k w =
    (record { low = w.0.low; alive = ap (λ (t : CellTable). has_id t.live c) k.table ∙ w.0.alive; same = refl }, stays_out m n target k.woken w.1)
place_kept m n target (Ended code) reply k w = absurd w

-- the table has an owner for each CPU
same-cpus : (m n : Machine) → cell_table_of n ≡ cell_table_of m → length n.cpus ≡ length m.cpus
unfolding cell_table_of
same-cpus m n e = sym (length-map n.cpus owner_in) ∙ ap (λ (t : CellTable). length t.owners) e ∙ length-map m.cpus owner_in

pub other-follows : (e : Event) (m : Machine) (w : Watched) (s : Stepped) → Follows m w → Other e m s → Follows s.machine (watched e s.answer m w)
unfolding cell_table_of
other-follows e m w s f o =
    subst (Follows s.machine) (sym (o.reply w (has-reply m w.account.target w.account.place w.reply f.place)))
    (record {
      all_words = o.kept.all_words f.all_words;
      all_cpus = same-cpus m s.machine o.kept.table ∙ f.all_cpus;
      on = ap (λ (t : CellTable). is_on t.power) o.kept.table ∙ f.on;
      small = f.small;
      waiting = o.kept.waiting ∙ f.waiting;
      place = place_kept m s.machine w.account.target w.account.place w.reply o.kept f.place;
      kind = f.kind;
    })
