-- Log lines. Document 01, "Replay program": the event that a line of bytes says, and the record that a `create` line brings.
use Rattle.std.specs.Prelude.{Bool, true, false, not, ◌&&◌, ◌||◌, List, [], ◌∷◌, ℕ, ◌+◌, ◌-◌, ◌*◌, ◌/◌, ◌^◌, leb, ltb, eqb, length}
use Rattle.base.specs.Lists.{all, same}
use Rattle.machine_state.specs.declared.Event.{Event}
use Rattle.machine_state.specs.declared.Event.TheVariants.{Call, Store, Fault, Exit, Poll, Malformed}

-- "a line feed ends a line ..; at most" so many "bytes without it": "replay lines may be 4,400 bytes" (request C-16)
abbrev pub max_line : ℕ
max_line = 4400

-- a line's HEX has two digits to a byte, so no record of a line is longer than this
abbrev pub max_record : ℕ
max_record = max_line / 2

-- "single spaces": the words of a line are what stands between its spaces. Where two spaces meet, or one begins or ends the line, the
-- word is empty, which is no line word, number or HEX
abbrev pub space : ℕ
space = 32

unfoldable pub into_first : ℕ → List (List ℕ) → List (List ℕ)
into_first b [] = (b ∷ []) ∷ []
into_first b (w ∷ ws) = (b ∷ w) ∷ ws

unfoldable pub line_words : List ℕ → List (List ℕ)
line_words [] = [] ∷ []
line_words (b ∷ bs) = elim (eqb b space) [ true ↦ [] ∷ line_words bs | false ↦ into_first b (line_words bs) ]

-- "Numbers are unsigned decimals .. without leading zeros"
abbrev pub is_digit : ℕ → Bool
is_digit b = leb 0x30 b && leb b 0x39

unfoldable pub value_from : ℕ → List ℕ → ℕ
value_from n [] = n
value_from n (b ∷ bs) = value_from (10 * n + (b - 0x30)) bs

abbrev pub value : List ℕ → ℕ
value w = value_from 0 w

unfoldable pub is_decimal : List ℕ → Bool
is_decimal [] = false
is_decimal (b ∷ []) = is_digit b
is_decimal (b ∷ c ∷ bs) = is_digit b && not (eqb b 0x30) && all is_digit (c ∷ bs)

-- ".. below 2^64 (CODE and VALUE below 2^32)"
unfoldable pub is_number : ℕ → List ℕ → Bool
is_number bits w = is_decimal w && ltb (value w) (2 ^ bits)

-- "HEX is one or more lower-case pairs"
abbrev pub is_letter : ℕ → Bool
is_letter b = leb 0x61 b && leb b 0x66

abbrev pub is_hex_digit : ℕ → Bool
is_hex_digit b = is_digit b || is_letter b

unfoldable pub hex_digit : ℕ → ℕ
hex_digit b = elim (is_digit b) [ true ↦ b - 0x30 | false ↦ b - 0x57 ]

unfoldable pub is_pairs : List ℕ → Bool
is_pairs [] = true
is_pairs (a ∷ []) = false
is_pairs (a ∷ b ∷ bs) = is_hex_digit a && is_hex_digit b && is_pairs bs

unfoldable pub is_hex : List ℕ → Bool
is_hex w = leb 1 (length w) && is_pairs w

unfoldable pub bytes_of : List ℕ → List ℕ
bytes_of [] = []
bytes_of (a ∷ []) = []
bytes_of (a ∷ b ∷ bs) = (16 * hex_digit a + hex_digit b) ∷ bytes_of bs

-- the line words
abbrev pub word_call : List ℕ
word_call = 0x63 ∷ 0x61 ∷ 0x6c ∷ 0x6c ∷ []

abbrev pub word_create : List ℕ
word_create = 0x63 ∷ 0x72 ∷ 0x65 ∷ 0x61 ∷ 0x74 ∷ 0x65 ∷ []

abbrev pub word_store : List ℕ
word_store = 0x73 ∷ 0x74 ∷ 0x6f ∷ 0x72 ∷ 0x65 ∷ []

abbrev pub word_fault : List ℕ
word_fault = 0x66 ∷ 0x61 ∷ 0x75 ∷ 0x6c ∷ 0x74 ∷ []

abbrev pub word_exit : List ℕ
word_exit = 0x65 ∷ 0x78 ∷ 0x69 ∷ 0x74 ∷ []

abbrev pub word_poll : List ℕ
word_poll = 0x70 ∷ 0x6f ∷ 0x6c ∷ 0x6c ∷ []

-- the event, if the line is well formed. "All else is malformed"
abbrev pub given : Bool → Event → Event
given ok e = elim ok [ true ↦ e | false ↦ Malformed ]

-- `create CPU HEX`
unfoldable pub is_create : List ℕ → List ℕ → List ℕ → Bool
is_create w a b = same w word_create && is_number 64 a && is_hex b

-- `exit CPU KIND`
unfoldable pub is_exit : List ℕ → List ℕ → List ℕ → Bool
is_exit w a b = same w word_exit && is_number 64 a && is_number 64 b

-- `poll`; `fault CPU`; `exit CPU KIND` and `create CPU HEX`, which is the call with code 1; `store CPU WORD VALUE`; `call CPU CODE A1 A2`
unfoldable pub event_of : List (List ℕ) → Event
event_of [] = Malformed
event_of (w ∷ []) = given (same w word_poll) Poll
event_of (w ∷ a ∷ []) = given (same w word_fault && is_number 64 a) (Fault (value a))
event_of (w ∷ a ∷ b ∷ []) =
    elim (is_create w a b) [ true ↦ Call (value a) 1 0 0 | false ↦ given (is_exit w a b) (Exit (value a) (value b)) ]
event_of (w ∷ a ∷ b ∷ c ∷ []) =
    given (same w word_store && is_number 64 a && is_number 64 b && is_number 32 c) (Store (value a) (value b) (value c))
event_of (w ∷ a ∷ b ∷ c ∷ d ∷ []) =
    given (same w word_call && is_number 64 a && is_number 32 b && is_number 64 c && is_number 64 d)
    (Call (value a) (value b) (value c) (value d))
event_of (w ∷ a ∷ b ∷ c ∷ d ∷ e ∷ ws) = Malformed

-- the bytes of the record that comes with the event: "`call` with code 1 has an empty record"
unfoldable pub record_of : List (List ℕ) → List ℕ
record_of [] = []
record_of (w ∷ []) = []
record_of (w ∷ a ∷ []) = []
record_of (w ∷ a ∷ b ∷ []) = elim (is_create w a b) [ true ↦ bytes_of b | false ↦ [] ]
record_of (w ∷ a ∷ b ∷ c ∷ ws) = []

-- the event and the record of a line, without its line feed
unfoldable pub line_event : List ℕ → Event
line_event line = elim (leb (length line) max_line) [ true ↦ event_of (line_words line) | false ↦ Malformed ]

unfoldable pub line_record : List ℕ → List ℕ
line_record line = elim (leb (length line) max_line) [ true ↦ record_of (line_words line) | false ↦ [] ]
