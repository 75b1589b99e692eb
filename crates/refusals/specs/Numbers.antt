-- The numbers of refusals (docs/REFERENCE.md, X1), each under its word there. Assumes nothing.
use Rattle.std.specs.Prelude.{ℕ}

-- a text of more than 16,384 bytes
abbrev pub overlong : ℕ
overlong = 1

-- no token, or a name or a number too long
abbrev pub knot : ℕ
knot = 2

-- a token, or the end, that the grammar does not allow there
abbrev pub misplaced : ℕ
misplaced = 3

-- a name not declared above, or not of a kind allowed there
abbrev pub unknown : ℕ
unknown = 4

-- a name declared again
abbrev pub twice : ℕ
twice = 5

-- a number, an index or a width that does not fit
abbrev pub oversize : ℕ
oversize = 6

-- one more than a limit allows
abbrev pub crowded : ℕ
crowded = 7

-- more than 256 letters
abbrev pub long_run : ℕ
long_run = 8

-- a letter whose wire literals no word meets
abbrev pub impossible : ℕ
impossible = 9

-- a part that may fit no ticks where that is not allowed
abbrev pub hollow : ℕ
hollow = 10

-- a letter that ends a thread and can be followed inside it
abbrev pub open_end : ℕ
open_end = 11

-- two letters side by side whose wire literals one word meets
abbrev pub fork : ℕ
fork = 12

-- a record cut short, or read past the end
abbrev pub torn : ℕ
torn = 13

-- a bit stands and its byte is unchanged
abbrev pub idle_byte : ℕ
idle_byte = 14

-- a word with a bit above the wires
abbrev pub stray : ℕ
stray = 15

-- a tick after a bad one
abbrev pub stopped : ℕ
stopped = 16

-- a tick after 1,000,000
abbrev pub full : ℕ
full = 17

-- a buffer smaller than what is to be written there
abbrev pub short_bin : ℕ
short_bin = 18

-- a limit's number of ticks that is too large, or no stretch of ticks that is longer
abbrev pub stretch : ℕ
stretch = 21

-- a production to be limited that is not a single letter
abbrev pub not_single : ℕ
not_single = 22
