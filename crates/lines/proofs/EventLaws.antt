-- Laws of events: what a line's words say, by the test of the words. Assumes nothing.
use Rattle.std.proofs.Common.{◌≡◌, refl, sym, ap, ◌∙◌, Bool, true, false, List, [], ◌∷◌, ℕ, ◌<◌, ◌≤◌, length, Some, None}
use Rattle.std.specs.Bool.{then_some}
use borrow.Author.Tests.{le-leb, lt-leb}
use Rattle.machine_state.specs.declared.Event.{Event}
use Rattle.machine_state.specs.declared.Event.TheVariants.{Call, Exit, Malformed}
use Rattle.lines.specs.Lines.{max_line, line_words, value, given, is_create, is_exit, event_of, line_event}
use Rattle.lines.specs.Reading.{event_if, event_or, hex_word, Cuts}
use Rattle.lines.proofs.RecordLaws.{hex-said, no-hex}

-- what a call found is so
pub told : {T : Type 0} {found is t : T} → found ≡ is → found ≡ t → is ≡ t
told p q = sym p ∙ q

said : (t : Bool) (e : Event) → event_or (event_if t e) ≡ given t e
said true e = refl
said false e = refl

-- an event where a test holds
pub some-if : (t : Bool) (e : Event) → then_some t e ≡ event_if t e
some-if true e = refl
some-if false e = refl

pub given-if : (t : Bool) (e : Event) → event_or (then_some t e) ≡ given t e
given-if true e = refl
given-if false e = refl

pub test-holds : (t : Bool) (e f : Event) → event_if t e ≡ Some f → t ≡ true
test-holds true e f q = refl
test-holds false e f q = cc

pub event-is : (t : Bool) (e f : Event) → event_if t e ≡ Some f → f ≡ e
event-is true e f q = cc
event-is false e f q = cc

pub test-fails : (t : Bool) (e : Event) → event_if t e ≡ None → t ≡ false
test-fails true e q = cc
test-fails false e q = refl

-- three words are a `create` line, or else an `exit` line
module _ (w a b : List ℕ) where
  pub created : {e : Event} → is_create w a b ≡ true → e ≡ Call (value a) 1 0 0 → e ≡ event_of (w ∷ a ∷ b ∷ [])
  unfolding event_of
  created t q = rw (t, event_of) q

  pub created-hex : is_create w a b ≡ true → b ≡ hex_word (w ∷ a ∷ b ∷ [])
  unfolding hex_word
  created-hex t = rw (t, hex_word)

  pub no-create : {e : Event} → is_create w a b ≡ false → e ≡ event_or (event_if (is_exit w a b) (Exit (value a) (value b))) → e ≡ event_of (w ∷ a ∷ b ∷ [])
  unfolding event_of
  no-create t q = rw (t, event_of) (q ∙ said (is_exit w a b) (Exit (value a) (value b)))

  pub no-create-hex : {h : List ℕ} → is_create w a b ≡ false → h ≡ [] → h ≡ hex_word (w ∷ a ∷ b ∷ [])
  unfolding hex_word
  no-create-hex t q = rw (t, hex_word) q

pub six-words : (w a b c d e : List ℕ) (ws : List (List ℕ)) → Malformed ≡ event_of (w ∷ a ∷ b ∷ c ∷ d ∷ e ∷ ws)
unfolding event_of
six-words w a b c d e ws = refl

-- the event of a line that is not too long is that of its words, and its HEX is theirs
line-said : (line : List ℕ) (ws : List (List ℕ)) (e : Event) → length line ≤ max_line → line_words line ≡ ws → e ≡ event_of ws → e ≡ line_event line
unfolding line_event
line-said line ws e h q r = r ∙ ap event_of (sym q) ∙ rw (le-leb _ _ h, line_event)

pub cut-words : (line : List ℕ) (ws : List (List ℕ)) (e : Event) (h : List ℕ) → length line ≤ max_line → line_words line ≡ ws → e ≡ event_of ws → h ≡ hex_word ws
    → Cuts line e h
cut-words line ws e h short q f g = record { event-is = line-said line ws e short q f; hex-is = hex-said line h ws short q g }

pub cut-long : (line : List ℕ) (e : Event) (h : List ℕ) → max_line < length line → e ≡ Malformed → h ≡ [] → Cuts line e h
unfolding line_event
cut-long line e h long p q = record { event-is = p ∙ rw (lt-leb _ _ long, line_event); hex-is = q ∙ no-hex line long }
