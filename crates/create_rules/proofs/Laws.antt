-- The room of the pool, counted without a sum that could wrap; and what the code of Create's rows, or an admission that follows them, says of its
-- call: rows with codes, carried out, are the rows of the call. Assumes nothing.
use mathlib.Core.Path.{◌≡◌, refl, sym, ap, ap₂, subst, ◌∙◌}
use Prim.Native.Nat.{ℕ, suc, ◌+◌, ◌-◌, ◌<◌, ◌≤◌}
use native.Mathlib.Omega.{arith}
use borrow.Author.Tests.{lt-ltb, eq-eqb, ne_eqb}
use mathlib.Core.Bool.{Bool, true, false, not, ◌&&◌, ◌||◌}
use lib.Dec.{ltb, eqb}
use lib.IntN.{ℤ, pos, negsuc}
use Rattle.base.specs.Lists.{same}
use Rattle.base.proofs.Tests.{equal-leb}
use mathlib.Core.List.{List, [], ◌∷◌, map}
use mathlib.Core.Logic.{◌⊎◌, inl, inr}
use Rattle.std.specs.Prelude.{Option, Some, None, ok_or, Result, Ok, Err}
use Rattle.rules.proofs.Ids.{Found as Passing, NonePass as NonePasses, first-from}
use Rattle.rules.proofs.SomeIds.{from-some, from-none}
use Rattle.base.specs.declared.Errno.{Errno}
use Rattle.base.specs.declared.Errno.TheVariants.{NotPermitted, NoEntry, TooBig, NoMemory, Busy, Exists, Invalid, OutOfRange, NoSuchCall}
use Rattle.base.specs.Codes.{number_of, code_of}
use Rattle.base.specs.Rules.{Refusal, first_rule, ◌⇒◌, EPERM, E2BIG, ENOMEM, EBUSY, EEXIST, EINVAL}
use Rattle.cpu_set.specs.CpuSet.{member, subset}
use Rattle.cell_record.specs.declared.CellConfig.{CellConfig}
use Rattle.cell_record.specs.CellRecord.{cell_of, cell_form, cell_valid}
use Rattle.machine_state.specs.declared.CallKind.TheVariants.{Create}
use Rattle.machine_state.specs.declared.Machine.{Machine}
use Rattle.machine_state.specs.declared.Stepped.{Stepped}
use Rattle.rules.specs.State.{no_id, some_id, live}
use Rattle.rules.specs.Create.{some_cell_locked, too_long, invalid, name_in_use, busy, free_id, no_room}
use Rattle.rules.specs.Effects.{pool_cost}
use Rattle.rules.specs.Asking.{ask}
use Rattle.rules.specs.Calls.{create_call, ends}
use Rattle.live_cells.specs.declared.Found.{Found}
use Rattle.live_cells.specs.Looks.{found_live}
use Rattle.create_rules.specs.Rows.{use_code, new_id, code_of_id, create_code}

pub no-pages : (pages used count : ℕ) → pages < used + 2 → true ≡ ltb pages (used + pool_cost count)
no-pages pages used count h = sym (lt-ltb pages (used + pool_cost count) (omega arith))

pub pages-left : (pages used count : ℕ) → used + 2 ≤ pages → ltb (pages - (used + 2)) count ≡ ltb pages (used + pool_cost count)
pages-left pages used count h = equal-leb (suc (pages - (used + 2))) count (suc pages) (used + pool_cost count) (λ q. omega arith) (λ q. omega arith)

-- ---- the free ID, as an option

by_id : (m : Machine) → (free_id m < no_id) ⊎ (free_id m ≡ no_id)
unfolding free_id
by_id m = go (first-from (λ id. not (live m id)) 1 15)
  where
    go : {n : ℕ} → Passing (λ id. not (live m id)) 1 15 n ⊎ (NonePasses (λ id. not (live m id)) 1 15 × (n ≡ no_id)) → (n < no_id) ⊎ (n ≡ no_id)
    go (inl f) = inl (omega (arith, f.high))
    go (inr f) = inr f.1

-- the new cell's ID, by what the pool lacks and by the free ID
module _ (new : CellConfig) (m : Machine) (lacks : Bool) (is : lacks ≡ ltb m.system.pool.pages (m.pool_used + pool_cost new.region_count)) where
  abbrev by_room : Bool → Option ℕ
  by_room full = elim full as (λ x. Option ℕ) [ true ↦ None | false ↦ Some (free_id m) ]

  room-is : no_room new m ≡ (eqb (free_id m) no_id || lacks)
  unfolding no_room
  room-is = ap (λ (b : Bool). eqb (free_id m) no_id || b) (sym is)

  pub id-lacks : lacks ≡ true → None ≡ new_id new m
  unfolding new_id
  id-lacks t = sym (ap by_room (room-is ∙ ap (λ (b : Bool). eqb (free_id m) no_id || b) t ∙ always (eqb (free_id m) no_id)))
    where
      always : (b : Bool) → (b || true) ≡ true
      always true = refl
      always false = refl

  pub id-fits : lacks ≡ false → some_id (free_id m) ≡ new_id new m
  unfolding new_id
  id-fits t = go (by_id m)
    where
      room : (b : Bool) → eqb (free_id m) no_id ≡ b → by_room (b || false) ≡ new_id new m
      room b q = sym (ap by_room (room-is ∙ ap₂ (λ (a b : Bool). a || b) q t))

      go : (free_id m < no_id) ⊎ (free_id m ≡ no_id) → some_id (free_id m) ≡ new_id new m
      go (inl h) = from-some (free_id m) h ∙ room false (ne_eqb (free_id m) no_id (λ q. omega (arith, h, q)))
      go (inr h) = from-none (free_id m) (omega (arith, h)) ∙ room true (eq-eqb (free_id m) no_id h)

-- an ID that is none is -12
module _ (new : CellConfig) (m : Machine) (o : Option ℕ) (is : o ≡ new_id new m) where
  pub id-code : code_of_id (ok_or o NoMemory) ≡ elim (no_room new m) as (λ x. ℤ) [ true ↦ ENOMEM | false ↦ pos 0 ]
  unfolding new_id
  id-code = ap (λ (x : Option ℕ). code_of_id (ok_or x NoMemory)) is ∙ go (no_room new m)
    where
      go : (full : Bool) → code_of_id (ok_or (elim full as (λ x. Option ℕ) [ true ↦ None | false ↦ Some (free_id m) ]) NoMemory) ≡ elim full as (λ x. ℤ) [ true ↦ ENOMEM | false ↦ pos 0 ]
      go true = refl
      go false = refl

  pub id-is : (id : ℕ) → ok_or o NoMemory ≡ Ok id → id ≡ free_id m
  unfolding new_id
  id-is id q = sym (ap number q) ∙ ap (λ (x : Option ℕ). number (ok_or x NoMemory)) is ∙ go (no_room new m)
    where
      number : Result ℕ Errno → ℕ
      number (Ok n) = n
      number (Err why) = free_id m

      go : (full : Bool) → number (ok_or (elim full as (λ x. Option ℕ) [ true ↦ None | false ↦ Some (free_id m) ]) NoMemory) ≡ free_id m
      go true = refl
      go false = refl

-- ---- the rules, by what is found of the machine's parts and of the record's bytes

pub invalid-is : (bytes : List ℕ) (m : Machine) (cpus : ℕ) (valid inside : Bool) → cpus ≡ (cell_of bytes).cpus
    → valid ≡ (cell_form bytes && cell_valid m.system (cell_of bytes)) → inside ≡ subset cpus m.system.cpus → invalid bytes m ≡ (not valid || not inside)
unfolding invalid
invalid-is bytes m cpus valid inside c v i = rw (v, i, c)

-- the rule by its two tests, the second of which is asked where the first holds
module _ (bytes : List ℕ) (m : Machine) (valid : Bool) (v : valid ≡ (cell_form bytes && cell_valid m.system (cell_of bytes))) where
  pub not-valid : valid ≡ false → invalid bytes m ≡ true
  not-valid t =
      invalid-is bytes m _ valid _ refl v refl ∙ ap (λ (b : Bool). not b || not (subset (cell_of bytes).cpus m.system.cpus)) t

  pub valid-inside : valid ≡ true → (cpus : ℕ) (inside b : Bool) → cpus ≡ (cell_of bytes).cpus → inside ≡ subset cpus m.system.cpus → inside ≡ b → invalid bytes m ≡ not b
  valid-inside t cpus inside b c i e = invalid-is bytes m cpus valid inside c v i ∙ ap₂ (λ (x y : Bool). not x || not y) t e

module _ (bytes : List ℕ) (m : Machine) (found : Found) (is : found ≡ found_live bytes m) where
  pub name-is : (own : Bool) → own ≡ same m.system.name (cell_of bytes).name → name_in_use (cell_of bytes).name m ≡ (own || found.named)
  unfolding name_in_use found_live
  name-is own o = ap₂ (λ (a b : Bool). a || b) (sym o) (ap (λ (f : Found). f.named) (sym is))

  pub busy-is : (caller cpus : ℕ) (wanted inside : Bool) → cpus ≡ (cell_of bytes).cpus → wanted ≡ member caller cpus
      → inside ≡ subset cpus m.root_cpus → busy caller (cell_of bytes) m ≡ (wanted || not inside || found.held)
  unfolding busy found_live
  busy-is caller cpus wanted inside c w i = rw (is, w, i, c)

-- the code of a refusal is negative
negative : (why : Errno) → (n : ℕ) × (number_of why ≡ negsuc n)
negative NotPermitted = (0, refl)
negative NoEntry = (1, refl)
negative TooBig = (6, refl)
negative NoMemory = (11, refl)
negative Busy = (15, refl)
negative Exists = (16, refl)
negative Invalid = (21, refl)
negative OutOfRange = (33, refl)
negative NoSuchCall = (37, refl)

not_zero : {B : Type 0} (n : ℕ) → negsuc n ≡ pos 0 → B
not_zero n e = absurd (let z : ◌≡◌ {A = ℕ} 1 0 = ap below e in omega arith)
  where
    below : ℤ → ℕ
    below (pos n) = 0
    below (negsuc n) = 1

-- by the rows of what is in use: a refusal stands, and where they let a Create through the last row decides
module _ (caller : ℕ) (bytes : List ℕ) (m : Machine) (r : Result (Unit {0}) Errno) (is : code_of r ≡ use_code caller bytes m) where
  abbrev rest : ℤ
  rest =
      first_rule
      ((name_in_use (cell_of bytes).name m ⇒ EEXIST)
      ∷ (busy caller (cell_of bytes) m ⇒ EBUSY)
      ∷ (no_room (cell_of bytes) m ⇒ ENOMEM)
      ∷ [])
      (pos 0)

  -- both tables, by the tests
  abbrev used_by : Bool → Bool → ℤ
  used_by named held = first_rule ((named ⇒ EEXIST) ∷ (held ⇒ EBUSY) ∷ []) (pos 0)

  abbrev rest_by : Bool → Bool → Bool → ℤ
  rest_by named held full = first_rule ((named ⇒ EEXIST) ∷ (held ⇒ EBUSY) ∷ (full ⇒ ENOMEM) ∷ []) (pos 0)

  refused : (z : ℤ) (n : ℕ) → z ≡ negsuc n → (named held full : Bool) → z ≡ used_by named held → z ≡ rest_by named held full
  unfolding first_rule
  refused z n q true held full e = e
  refused z n q false true full e = e
  refused z n q false false full e = not_zero n (sym q ∙ e)

  let_through : (named held full : Bool) → pos 0 ≡ used_by named held → elim full as (λ x. ℤ) [ true ↦ ENOMEM | false ↦ pos 0 ] ≡ rest_by named held full
  unfolding first_rule
  let_through true held full e = not_zero 16 (sym e)
  let_through false true full e = not_zero 15 (sym e)
  let_through false false true e = refl
  let_through false false false e = refl

  pub use-code : (why : Errno) → r ≡ Err why → number_of why ≡ rest
  unfolding use_code
  use-code why q =
      let n = negative why in
      refused (number_of why) n.0 n.1 (name_in_use (cell_of bytes).name m) (busy caller (cell_of bytes) m) (no_room (cell_of bytes) m) (sym (ap code_of q) ∙ is)

  pub room-code : r ≡ Ok tt → elim (no_room (cell_of bytes) m) as (λ x. ℤ) [ true ↦ ENOMEM | false ↦ pos 0 ] ≡ rest
  unfolding use_code
  room-code q =
      let_through (name_in_use (cell_of bytes).name m) (busy caller (cell_of bytes) m) (no_room (cell_of bytes) m) (sym (ap code_of q) ∙ is)

-- ---- the call, by the code that its rows give

-- what a table gives, carried on, is what the table of the same rows carried on gives
carried_rows : {A B : Type 0} (f : A → B) (rows : List (Refusal A)) (otherwise : A)
    → f (first_rule rows otherwise) ≡ first_rule (map (λ r. r.when ⇒ f r.code) rows) (f otherwise)
unfolding first_rule
carried_rows f [] otherwise = refl
carried_rows f (r ∷ rows) otherwise = go r.when refl (carried_rows f rows otherwise)
  where
    go : (b : Bool) → r.when ≡ b → f (first_rule rows otherwise) ≡ first_rule (map (λ s. s.when ⇒ f s.code) rows) (f otherwise)
        → f (first_rule (r ∷ rows) otherwise) ≡ first_rule (map (λ s. s.when ⇒ f s.code) (r ∷ rows)) (f otherwise)
    go true e q = rw (e, first_rule)
    go false e q = rw (e, first_rule) q

-- a code carried out: a negative one ends the call
unfoldable carried_out : Machine → Stepped → ℤ → Stepped
carried_out m otherwise (pos n) = otherwise
carried_out m otherwise (negsuc n) = ends (negsuc n) m

module _ (caller : ℕ) (bytes : List ℕ) (m : Machine) where
  -- what comes where Create is not refused
  abbrev asked : Stepped
  asked = ask Create (free_id m) 0 (cell_of bytes) m

  carried-call : create_call caller bytes m ≡ carried_out m asked (create_code caller bytes m)
  unfolding create_call create_code carried_out
  carried-call =
      sym (carried_rows (carried_out m asked)
      ((some_cell_locked m ⇒ EPERM)
      ∷ (too_long bytes ⇒ E2BIG)
      ∷ (invalid bytes m ⇒ EINVAL)
      ∷ (name_in_use (cell_of bytes).name m ⇒ EEXIST)
      ∷ (busy caller (cell_of bytes) m ⇒ EBUSY)
      ∷ (no_room (cell_of bytes) m ⇒ ENOMEM)
      ∷ [])
      (pos 0))

  pub create-refused : (n : ℕ) → create_code caller bytes m ≡ negsuc n → create_call caller bytes m ≡ ends (negsuc n) m
  unfolding carried_out
  create-refused n e = carried-call ∙ ap (carried_out m asked) e

  pub create-admitted : create_code caller bytes m ≡ pos 0 → create_call caller bytes m ≡ ask Create (free_id m) 0 (cell_of bytes) m
  unfolding carried_out
  create-admitted e = carried-call ∙ ap (carried_out m asked) e

  ended : (why : Errno) → carried_out m asked (number_of why) ≡ ends (number_of why) m
  unfolding carried_out
  ended why = let n = negative why in subst (λ (z : ℤ). carried_out m asked z ≡ ends z m) (sym n.1) refl

  -- a refusal is the call's end, and a Create that is let through asks
  module _ (r : Result ℕ Errno) (is : code_of_id r ≡ create_code caller bytes m) where
    pub code-admits : (id : ℕ) → r ≡ Ok id → create_call caller bytes m ≡ ask Create (free_id m) 0 (cell_of bytes) m
    code-admits id q = create-admitted (sym is ∙ ap code_of_id q)

    pub code-refuses : (why : Errno) → r ≡ Err why → create_call caller bytes m ≡ ends (number_of why) m
    code-refuses why q = carried-call ∙ ap (carried_out m asked) (sym is ∙ ap code_of_id q) ∙ ended why
