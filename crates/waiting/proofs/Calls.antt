-- A call that is left waiting is root's, and goes as the account begins: every other row of its table ends it with a code. A call of a CPU that
-- is not root's ends at once. Assumes nothing.
use Rattle.std.proofs.Common.{Bool, true, false, not, ◌≡◌, refl, sym, ap, ◌∙◌, subst, inl, inr, List, ℕ, ◌<◌, arith, eqb, ℤ}
use Rattle.std.proofs.lemmas.Bool.{eqb-false, false≢true, or_parts}
use Rattle.base.specs.Rules.{first_rule}
use Rattle.cell_record.specs.declared.CellConfig.{CellConfig}
use Rattle.cell_record.specs.CellRecord.{cell_of}
use Rattle.machine_state.specs.declared.CallKind.{CallKind}
use Rattle.machine_state.specs.declared.Answer.TheVariants.{Code}
use Rattle.machine_state.specs.declared.Machine.{Machine}
use Rattle.machine_state.specs.declared.Stepped.{Stepped}
use Rattle.rules.specs.State.{cell_ids, no_id, first, live, cpu_at, answered}
use Rattle.rules.specs.Create.{free_id, no_room}
use Rattle.rules.specs.Asking.{ask}
use Rattle.rules.specs.Calls.{call}
use Rattle.rules.specs.Account.{begun, about_cell, ask_on}
use Rattle.rules.specs.Observer.{shown_by, kind_of_code, target_of}
use Rattle.rules.proofs.Ids.{Search, first-from}
use Rattle.rules.proofs.Cases.{MayTarget, others-cases, call-cases}
use Rattle.rules.specs.Answers.{is_wait}
use Rattle.waiting.proofs.Shown.{free-shown, live-lt}
use Rattle.waiting.proofs.Machines.{AllWords}
use Rattle.waiting.proofs.Moves.{step_for, ask-moves}

-- ---- a call of a CPU that is not root's

-- it ends with a code and leaves the machine as it is
pub record Ends (m : Machine) (s : Stepped) : Type 0 where
  pub code : ℤ
  pub same : s ≡ answered (Code code) m

module _ (cpu code a1 a2 : ℕ) (bytes : List ℕ) (m : Machine) where
  pub other-ends : eqb (cpu_at m cpu).cell 0 ≡ false → Ends m (call cpu code a1 a2 bytes m)
  other-ends h = others-cases (Ends m) cpu code a1 a2 bytes m h (λ z. record { code = z; same = refl })

-- ---- a call that is left waiting

-- it goes as its account begins
pub record Began (kind : CallKind) (target : ℕ) (new : CellConfig) (m : Machine) (s : Stepped) : Type 0 where
  pub small : about_cell kind target (shown_by m) < 16
  pub moves : s ≡ step_for (begun kind target (shown_by m)) new m

unfoldable Left : CallKind → ℕ → CellConfig → Machine → Stepped → Type 0
Left kind target new m s = is_wait s.answer ≡ true → Began kind target new m s

code-left : (kind : CallKind) (target : ℕ) (new : CellConfig) (m : Machine) (z : ℤ) → Left kind target new m (answered (Code z) m)
unfolding Left is_wait answered
code-left kind target new m z t = absurd (false≢true t)

ask-left : (kind : CallKind) (target about : ℕ) (new : CellConfig) (m : Machine) → AllWords m → about < 16 → about_cell kind target (shown_by m) ≡ about
    → Left kind target new m (ask kind about 0 new m)
unfolding Left begun
ask-left kind target about new m h l e t = record {
  small = subst (λ (n : ℕ). n < 16) (sym e) l;
  moves = ask-moves kind about new m h l 0 ∙ ap (λ (n : ℕ). step_for (ask_on kind n 0 (shown_by m)) new m) (sym e);
}

free-lt : (m : Machine) → eqb (free_id m) no_id ≡ false → free_id m < 16
unfolding free_id
free-lt m e = go (first-from (λ id. not (live m id)) 1 15)
  where
    free : ℕ → Bool
    free id = not (live m id)

    go : Search free 1 15 (first free cell_ids) → first free cell_ids < 16
    go (inl f) = omega (arith, f.high)
    go (inr f) = absurd (eqb-false (free_id m) no_id e f.1)

module _ (cpu code a1 a2 : ℕ) (bytes : List ℕ) (m : Machine) (h : AllWords m) where
  -- of the call that a code means, with its kind and target as the observer reads them
  unfoldable LeftAs : ℕ → Stepped → Type 0
  LeftAs k s = Left (kind_of_code k) (target_of (kind_of_code k) a1) (cell_of bytes) m s

  by_code : (k : ℕ) (s : Stepped) → LeftAs k s → code ≡ k → LeftAs code s
  by_code k s p e = subst (λ (n : ℕ). LeftAs n s) (sym e) p

  target-lt : (kind : CallKind) → MayTarget kind a1 m → a1 < 16
  target-lt kind may = live-lt m a1 may.lives

  left_as : LeftAs code (call cpu code a1 a2 bytes m)
  unfolding LeftAs kind_of_code target_of first_rule about_cell no_room
  left_as =
      call-cases (LeftAs code) cpu code a1 a2 bytes m
      (record {
        at_once = λ z. code-left (kind_of_code code) (target_of (kind_of_code code) a1) new m z;
        disables = λ e. by_code 0 _ (ask-left CallKind.Disable 0 0 new m h (omega arith) refl) e;
        creates = λ e may. by_code 1 _
            (ask-left CallKind.Create 0 (free_id m) new m h (free-lt m ((or_parts (eqb (free_id m) no_id) _ may.room).0)) (free-shown m)) e;
        starts = λ e may. by_code 2 _ (ask-left CallKind.Start a1 a1 new m h (target-lt CallKind.Start may) refl) e;
        loads = λ e may. by_code 3 _ (ask-left CallKind.SetLoadable a1 a1 new m h (target-lt CallKind.SetLoadable may) refl) e;
        destroys = λ e may. by_code 4 _ (ask-left CallKind.Destroy a1 a1 new m h (target-lt CallKind.Destroy may) refl) e;
      })
    where
      new : CellConfig
      new = cell_of bytes

  pub call-left : is_wait (call cpu code a1 a2 bytes m).answer ≡ true
      → Began (kind_of_code code) (target_of (kind_of_code code) a1) (cell_of bytes) m (call cpu code a1 a2 bytes m)
  unfolding LeftAs Left
  call-left = left_as
