-- The shared list of examples: rule texts and words with their right sheets (docs/REFERENCE.md, P1 to P7), which the customer's specification and its requests give; and looks
-- and takes with the right replies (W10 and W11); and how many rows are touched (F23 to F26).
-- Assumes nothing.
use Rattle.std.specs.Prelude.{ℕ, List, [], ◌∷◌, ◌++◌}
use Prim.Native.String.{String}
use Rattle.lexer.specs.Bytes.{bytes}
use Rattle.meaning.specs.Calls.{Call, look, take, Reply, ok, bad, refused}

pub record Example : Type 0 where
  pub text : List ℕ
  pub words : List ℕ
  pub sheet : List ℕ

-- with single wires a, b and c in this order, and one production
abbrev over_abc : String → List ℕ
over_abc e = bytes "input a; input b; input c; p -> " ++ bytes e ++ bytes "; monitor p;"

abbrev abc : String → List ℕ → String → Example
abc e ws s = record { text = over_abc e; words = ws; sheet = bytes s }

-- with a wire, a field, and a store of the field's width
abbrev held : String → List ℕ → String → Example
held e ws s =
    record { text = bytes "input V; input D[7:0]; internal h[7:0] = 0; p -> " ++ bytes e ++ bytes "; monitor p;"; words = ws; sheet = bytes s }

-- S11, S13, S12 and S10, each broken; S3: both counts; F10, F17 and F20: two starts of a thread that both require a letter, and a test of what was written a tick before
abbrev pub proving : List Example
proving =
    abc "(a*)*" [] "refused 10 0 0\n"
    ∷ abc "a*" [] "refused 10 0 0\n"
    ∷ abc "a, a" [] "rows 3 letters 2\nclean 0\nmet 0 0 0\nmet 0 1 0\ntotal 0\n"
    ∷ abc "a*, a" [] "refused 12 0 0\n"
    ∷ abc "a, b || a, c" [] "refused 12 0 0\n"
    ∷ abc "a @ (b, c*)" [] "refused 11 0 1\n"
    ∷ abc "a & !a" [] "refused 9 0 0\n"
    ∷ abc "a @ (b, c)" (1 ∷ 3 ∷ 7 ∷ [])
    "rows 5 letters 3\n0 0000000000000001 ok\n1 0000000000000003 ok\n2 0000000000000007 bad 0\nmet 0 0 2\nmet 0 1 1\nmet 0 2 0\ntotal 3\n"
    ∷ abc "a @ (b, c)" (1 ∷ 3 ∷ 3 ∷ [])
    "rows 5 letters 3\n0 0000000000000001 ok\n1 0000000000000003 ok\n2 0000000000000003 bad 0\nmet 0 0 2\nmet 0 1 1\nmet 0 2 0\ntotal 3\n"
    ∷ held "V {h <- D;}, V & D == h" (11 ∷ 11 ∷ [])
    "rows 3 letters 2\n0 000000000000000b ok\n1 000000000000000b ok\nclean 2\nmet 0 0 1\nmet 0 1 1\ntotal 2\n"
    ∷ held "V {h <- D;}, V & D == h" (11 ∷ 13 ∷ [])
    "rows 3 letters 2\n0 000000000000000b ok\n1 000000000000000d bad 0\nmet 0 0 1\nmet 0 1 0\ntotal 1\n"
    ∷ []

-- P3 and P4: a sheet that ends with a bad tick
abbrev pub sample : Example
sample = record {
  text = bytes "input SCAN;\ninput CUT;\nline -> SCAN @ (CUT || !CUT, CUT) || !SCAN;\nmonitor line;\n";
  words = 1 ∷ 0 ∷ 0 ∷ [];
  sheet = bytes "rows 9 letters 5\n0 0000000000000001 ok\n1 0000000000000000 ok\n2 0000000000000000 bad 0\nmet 0 0 1\nmet 0 1 0\nmet 0 2 1\nmet 0 3 0\nmet 0 4 1\ntotal 3\n";
}

-- Misreadings of F11, F20, F17 and S8, each with words on which it would answer otherwise.
abbrev pub misreadings : List Example
misreadings =
    -- a thread started before its left operand is known to have ended: `c` would be asked for at tick 1, and the watch would go bad there
    abc "(a, b*) @ c, !b" (1 ∷ 2 ∷ 2 ∷ 4 ∷ [])
    "rows 8 letters 4\n0 0000000000000001 ok\n1 0000000000000002 ok\n2 0000000000000002 ok\n3 0000000000000004 ok\nclean 4\nmet 0 0 1\nmet 0 1 2\nmet 0 2 1\nmet 0 3 1\ntotal 5\n"
    -- a test that sees a write of its own tick: D would equal h, and tick 0 would be ok
    ∷ held "V & D == h {h <- D;}" (11 ∷ []) "rows 1 letters 1\n0 000000000000000b bad 0\nmet 0 0 0\ntotal 0\n"
    -- the older of two starts of a thread dropped: nobody would ask for its `c`, and tick 2 would be ok with this word
    ∷ abc "a @ (b, c)" (1 ∷ 3 ∷ 3 ∷ [])
    "rows 5 letters 3\n0 0000000000000001 ok\n1 0000000000000003 ok\n2 0000000000000003 bad 0\nmet 0 0 2\nmet 0 1 1\nmet 0 2 0\ntotal 3\n"
    -- `a, a` called a fork: the text would be refused with 12
    ∷ abc "a, a" (1 ∷ 1 ∷ []) "rows 3 letters 2\n0 0000000000000001 ok\n1 0000000000000001 ok\nclean 2\nmet 0 0 1\nmet 0 1 1\ntotal 2\n"
    ∷ []

-- G21 and F22: before tick 0 every wire was 0; a field that moved; another name inside, at its byte
abbrev pub pasts : List Example
pasts =
    abc "a == past(a) & b" (2 ∷ []) "rows 1 letters 1\n0 0000000000000002 ok\nclean 1\nmet 0 0 1\ntotal 1\n"
    ∷ abc "a == past(a) & b" (3 ∷ []) "rows 1 letters 1\n0 0000000000000003 bad 0\nmet 0 0 0\ntotal 0\n"
    ∷ held "V & D == past(D) || !V" (10 ∷ 11 ∷ 13 ∷ [])
    "rows 3 letters 2\n0 000000000000000a ok\n1 000000000000000b ok\n2 000000000000000d bad 0\nmet 0 0 1\nmet 0 1 1\ntotal 2\n"
    ∷ abc "a == past(b)" [] "refused 3 42\n"
    ∷ []

-- with a production t before the rest of the text
abbrev with : String → String → List ℕ → String → Example
with t rest ws s = record { text = bytes "input a; input b; input c; t -> " ++ bytes t ++ bytes "; " ++ bytes rest; words = ws; sheet = bytes s }

-- F17: starts of a thread that overlap, each with a reading by which it would end otherwise
abbrev pub overlaps : List Example
overlaps =
    -- two starts at one letter counted as one: tick 2 would be ok
    abc "a @ (b & !c*, c) || !a" (1 ∷ 3 ∷ 2 ∷ [])
    "rows 8 letters 4\n0 0000000000000001 ok\n1 0000000000000003 ok\n2 0000000000000002 bad 0\nmet 0 0 2\nmet 0 1 1\nmet 0 2 0\nmet 0 3 0\ntotal 3\n"
    -- a start counted on the tick after its last letter: tick 2 would be bad
    ∷ abc "a @ b" (1 ∷ 3 ∷ 3 ∷ [])
    "rows 3 letters 2\n0 0000000000000001 ok\n1 0000000000000003 ok\n2 0000000000000003 ok\nclean 3\nmet 0 0 3\nmet 0 1 2\ntotal 5\n"
    -- the inner thread's letters counted for the outer one: tick 2 would be bad, where one start of the outer thread requires `b` and the inner one, begun by the other, `c`;
    -- an inner thread of its own for each start of the outer one: tick 3 would be ok
    ∷ abc "a @ (b @ (c, c)) || !a" (1 ∷ 3 ∷ 6 ∷ 4 ∷ [])
    "rows 9 letters 5\n0 0000000000000001 ok\n1 0000000000000003 ok\n2 0000000000000006 ok\n3 0000000000000004 bad 0\nmet 0 0 2\nmet 0 1 2\nmet 0 2 1\nmet 0 3 0\nmet 0 4 1\ntotal 6\n"
    -- two copies of a production taken for one thread: tick 2 would be bad
    ∷ with "a @ (b, c)" "p -> t, t || !a; monitor p;" (1 ∷ 3 ∷ 6 ∷ [])
    "rows 13 letters 7\n0 0000000000000001 ok\n1 0000000000000003 ok\n2 0000000000000006 ok\nclean 3\nmet 0 0 1\nmet 0 1 1\nmet 0 2 1\nmet 0 3 1\nmet 0 4 1\nmet 0 5 0\nmet 0 6 1\ntotal 6\n"
    -- two monitors with the same production taken for one thread: tick 1 would be bad
    ∷ with "a @ (b, c) || !a" "monitor t, t;" (1 ∷ 2 ∷ 4 ∷ [])
    "rows 14 letters 8\n0 0000000000000001 ok\n1 0000000000000002 ok\n2 0000000000000004 ok\nclean 3\nmet 0 0 1\nmet 0 1 1\nmet 0 2 1\nmet 0 3 2\nmet 1 0 1\nmet 1 1 1\nmet 1 2 1\nmet 1 3 2\ntotal 10\n"
    -- a thread of its own for each round of a star: tick 2 would be ok
    ∷ abc "(a @ (b, c))*, !a" (1 ∷ 3 ∷ 6 ∷ [])
    "rows 8 letters 4\n0 0000000000000001 ok\n1 0000000000000003 ok\n2 0000000000000006 bad 0\nmet 0 0 2\nmet 0 1 1\nmet 0 2 0\nmet 0 3 0\ntotal 3\n"
    -- two ways out of a star taken for two starts: tick 1 would be bad
    ∷ abc "(a, ((b & !c)* || (c & !b)*)) @ (!b, !b), !a & !b & !c" (1 ∷ 0 ∷ 1 ∷ [])
    "rows 13 letters 6\n0 0000000000000001 ok\n1 0000000000000000 ok\n2 0000000000000001 ok\nclean 3\nmet 0 0 2\nmet 0 1 0\nmet 0 2 0\nmet 0 3 1\nmet 0 4 1\nmet 0 5 1\ntotal 5\n"
    -- a branch that goes another way at tick 3 dropped with the one that starts the thread there: tick 3 would be bad
    ∷ abc "(a, b*) @ (c, c, c), !b" (1 ∷ 4 ∷ 5 ∷ 6 ∷ [])
    "rows 12 letters 6\n0 0000000000000001 ok\n1 0000000000000004 ok\n2 0000000000000005 ok\n3 0000000000000006 ok\nclean 4\nmet 0 0 2\nmet 0 1 1\nmet 0 2 1\nmet 0 3 1\nmet 0 4 1\nmet 0 5 1\ntotal 7\n"
    ∷ []

-- F27, F28 and P10: the lines at the foot, each with a reading by which they would be others
abbrev pub feet : List Example
feet =
    -- a bad tick counted for the monitors that fit it: letter 0 of monitor 0 would have been met twice
    with "a" "p -> b; monitor t, p;" (3 ∷ 1 ∷ [])
    "rows 2 letters 2\n0 0000000000000003 ok\n1 0000000000000001 bad 1\nmet 0 0 1\nmet 1 0 1\ntotal 2\n"
    -- a tick counted for each branch that has the letter there, here two by no round of either star: letter 3 would have been met twice
    ∷ abc "a, ((b & !c)* || (c & !b)*), !a & !b & !c" (1 ∷ 0 ∷ [])
    "rows 9 letters 4\n0 0000000000000001 ok\n1 0000000000000000 ok\nclean 2\nmet 0 0 1\nmet 0 1 0\nmet 0 2 0\nmet 0 3 1\ntotal 2\n"
    -- totals behind a refusal
    ∷ abc "a" (1 ∷ 8 ∷ []) "rows 1 letters 1\n0 0000000000000001 ok\nrefused 15 1\n"
    ∷ []

-- F29 to F31, W6, S14 and G22: limits, each with a reading by which the sheet would be another
abbrev pub limited : List Example
limited =
    -- a window one tick too short: tick 2 would be ok
    with "a" "p -> t || !a; limit t to 1 in 3; monitor p;" (1 ∷ 0 ∷ 1 ∷ [])
    "rows 3 letters 2\n0 0000000000000001 ok\n1 0000000000000000 ok\n2 0000000000000001 bad 32\nmet 0 0 1\nmet 0 1 1\ntotal 2\n"
    -- one tick too long: tick 3 would be bad
    ∷ with "a" "p -> t || !a; limit t to 1 in 3; monitor p;" (1 ∷ 0 ∷ 0 ∷ 1 ∷ [])
    "rows 3 letters 2\n0 0000000000000001 ok\n1 0000000000000000 ok\n2 0000000000000000 ok\n3 0000000000000001 ok\nclean 4\nmet 0 0 2\nmet 0 1 2\ntotal 4\n"
    -- a tick counted for each letter met at it: tick 0 would be bad
    ∷ with "a" "limit t to 1 in 2; monitor t, t;" (1 ∷ []) "rows 2 letters 2\n0 0000000000000001 ok\nclean 1\nmet 0 0 1\nmet 1 0 1\ntotal 2\n"
    -- the limit named before a bad monitor: tick 1 would be bad 32
    ∷ with "a" "p -> t || !a; q -> b; limit t to 1 in 2; monitor p, q;" (3 ∷ 1 ∷ [])
    "rows 4 letters 3\n0 0000000000000003 ok\n1 0000000000000001 bad 1\nmet 0 0 1\nmet 0 1 0\nmet 1 0 1\ntotal 2\n"
    -- copies that did not come through the production counted: tick 1 would be bad
    ∷ with "a" "q -> t; p -> t, t; limit q to 1 in 2; monitor p;" (1 ∷ 1 ∷ 1 ∷ [])
    "rows 3 letters 2\n0 0000000000000001 ok\n1 0000000000000001 ok\n2 0000000000000001 ok\nclean 3\nmet 0 0 2\nmet 0 1 1\ntotal 3\n"
    -- copies by way of another production not counted, or those above the limit: tick 1 would be ok
    ∷ with "a" "q -> t; p -> q, q; limit t to 1 in 2; monitor p;" (1 ∷ 1 ∷ [])
    "rows 3 letters 2\n0 0000000000000001 ok\n1 0000000000000001 bad 32\nmet 0 0 1\nmet 0 1 0\ntotal 1\n"
    -- another limit than the lowest named: 34
    ∷ with "a" "p -> t || !a; limit t to 2 in 9; limit t to 0 in 1; limit t to 0 in 5; monitor p;" (0 ∷ 1 ∷ [])
    "rows 3 letters 2\n0 0000000000000000 ok\n1 0000000000000001 bad 33\nmet 0 0 0\nmet 0 1 1\ntotal 1\n"
    -- a stretch as long as its number of ticks; a production that is not a single letter
    ∷ with "a" "limit t to 2 in 2; monitor t;" [] "refused 21 51\n"
    ∷ with "a" "p -> t, t; limit p to 1 in 2; monitor p;" [] "refused 22 52\n"
    ∷ []

abbrev pub examples : List Example
examples = proving ++ (sample ∷ misreadings ++ pasts ++ overlaps ++ feet ++ limited)

-- ---- looks and takes

pub record Dialogue : Type 0 where
  pub text : List ℕ
  pub calls : List Call
  pub replies : List Reply

-- W10: "a bad one stops nothing, and none counts for anything later"; W9, W3: after a stray word the watch goes on, after a bad take it does not, for looks either
abbrev pub dialogues : List Dialogue
dialogues =
    record {
      text = over_abc "a";
      calls = look 0 ∷ take 1 ∷ look 0 ∷ look 8 ∷ take 8 ∷ take 1 ∷ take 0 ∷ look 1 ∷ take 1 ∷ [];
      replies = bad 0 ∷ ok ∷ bad 0 ∷ refused 15 0 ∷ refused 15 0 ∷ ok ∷ bad 0 ∷ refused 16 0 ∷ refused 16 0 ∷ [];
    }
    -- a look whose word became the word before: a would have been 1, and the take would be bad
    ∷ record { text = over_abc "b || a == past(a) & !b"; calls = look 3 ∷ take 0 ∷ []; replies = ok ∷ ok ∷ [] }
    ∷ []

-- ---- rows touched

-- the numbers for each of these words, and for the tick behind them
pub record Touching : Type 0 where
  pub text : List ℕ
  pub words : List ℕ
  pub numbers : List ℕ

abbrev touching : String → List ℕ → List ℕ → Touching
touching e ws ns = record { text = over_abc e; words = ws; numbers = ns }

-- F23 to F26, each with a reading by which a number would be another
abbrev pub touchings : List Touching
touchings =
    -- the star left only with its body: 4 at tick 0; asked again with a further round: 5 at tick 1
    touching "a*, b & !a" (1 ∷ []) (5 ∷ 4 ∷ [])
    -- a monitor that begins again not asked: 1 at tick 1, and 2 at tick 2 of the second
    ∷ touching "a" (1 ∷ []) (1 ∷ 2 ∷ [])
    ∷ touching "a, b" (1 ∷ 2 ∷ []) (2 ∷ 2 ∷ 4 ∷ [])
    -- the `@` left with its thread: 7 at tick 1; the thread still left a tick after its last letter: 7 at tick 3
    ∷ touching "a @ b || !a" (1 ∷ 2 ∷ 0 ∷ []) (4 ∷ 8 ∷ 7 ∷ 6 ∷ [])
    -- a thread that is busy not asked: 6 at tick 2
    ∷ touching "a @ (b, c)" (1 ∷ 3 ∷ []) (2 ∷ 6 ∷ 8 ∷ [])
    -- a row reached in two ways counted twice: 12 at tick 0
    ∷ touching "((a & !b)* || (b & !a)*), c & !a & !b" (1 ∷ []) (10 ∷ 5 ∷ [])
    ∷ []
