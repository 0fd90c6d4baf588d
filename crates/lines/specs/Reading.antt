-- What is read of a line: a number where there is one, the digits of a record; and of the whole line, its event and record.
use Rattle.std.specs.Prelude.{◌≡◌, Bool, true, false, ◌&&◌, List, [], ◌∷◌, ◌++◌, ℕ, ◌+◌, ◌-◌, ◌*◌, ◌^◌, min, leb, ltb, length, take, drop, Some, None}
use Rattle.std.specs.declared.option.Option.{Option}
use Rattle.base.specs.Lists.{all}
use Rattle.machine_state.specs.declared.Event.{Event}
use Rattle.machine_state.specs.declared.Event.TheVariants.{Malformed}
use Rattle.lines.specs.Lines.{max_line, line_words, is_digit, value_from, value, is_number, is_create, line_event, line_record}
use Rattle.lines.specs.declared.Line.{Line}

-- a number where it is one
abbrev pub number_if : Bool → ℕ → Option ℕ
number_if ok n = elim ok [ true ↦ Some n | false ↦ None ]

-- a word as a number of so many bits
unfoldable pub word_number : ℕ → List ℕ → Option ℕ
word_number bits w = number_if (is_number bits w) (value w)

-- a number with one digit more
unfoldable pub with_digit : ℕ → ℕ → Option ℕ
with_digit n b = number_if (is_digit b && ltb (10 * n + (b - 0x30)) (2 ^ 64)) (10 * n + (b - 0x30))

-- a number with the digits of a word behind it
unfoldable pub with_digits : ℕ → List ℕ → Option ℕ
with_digits n w = number_if (all is_digit w && ltb (value_from n w) (2 ^ 64)) (value_from n w)

-- the HEX of a `create` line, and no bytes of any other
unfoldable pub hex_word : List (List ℕ) → List ℕ
hex_word [] = []
hex_word (w ∷ []) = []
hex_word (w ∷ a ∷ []) = []
hex_word (w ∷ a ∷ b ∷ []) = elim (is_create w a b) [ true ↦ b | false ↦ [] ]
hex_word (w ∷ a ∷ b ∷ c ∷ ws) = []

unfoldable pub line_hex : List ℕ → List ℕ
line_hex line = elim (leb (length line) max_line) [ true ↦ hex_word (line_words line) | false ↦ [] ]

-- an event where the words say it. "All else is malformed"
abbrev pub event_if : Bool → Event → Option Event
event_if ok e = elim ok [ true ↦ Some e | false ↦ None ]

abbrev pub event_or : Option Event → Event
event_or (Some e) = e
event_or None = Malformed

-- a line cut into words: its event, and its HEX
pub record Cuts (line : List ℕ) (event : Event) (hex : List ℕ) : Type 0 where
  pub event-is : event ≡ line_event line
  pub hex-is : hex ≡ line_hex line

-- a line read: its event, and its record, which stands at the start of the bytes given, as far as it fits
pub record ReadsLine (line before : List ℕ) (r : Line) (after : List ℕ) : Type 0 where
  pub event : r.event ≡ line_event line
  pub size : r.len ≡ min (length (line_record line)) (length before)
  pub bytes : after ≡ take r.len (line_record line) ++ drop r.len before
