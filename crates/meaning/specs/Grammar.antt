-- The grammar of rule texts (docs/REFERENCE.md, G1 to G22 and N1 to N8), without an order of reading: what a list of tokens is, and what it means.
-- `IsX ns ts us m` says that the tokens ts are an X that means m, and us behind it; ns are the names declared above. A form stands below those that it is made of, so that
-- what G1 has first is the last here. Names, `declare` and the meanings are those of specs/Names; proofs/GrammarExact shows that a text is read as a program exactly
-- if it is one by this grammar. Assumes nothing.
use Rattle.std.specs.Prelude.{List, [], ◌∷◌, ◌++◌, map, ◌≡◌, ℕ, suc, ◌+◌, ◌^◌, ◌≤◌, ◌<◌, length}
use Rattle.std.proofs.Math.Option.{none, some}
use Rattle.lexer.specs.Bytes.{lookup}
use Rattle.lexer.specs.Tokens.{Token, Placed, name, word, number, sign, end, input, internal, define, monitor, past, limit, to, inside, rule_words, tokens}
use Rattle.meaning.specs.Expression.{Literal, wire, wire_store, wire_past, store, Write, from_wire, from_number, Exp, seq, alt, star, pipe, store_tests, a_letter, single}
use Rattle.lexer.specs.Signs.{semicolon, comma, at_sign, star as asterisk, ampersand, bang, left_paren, right_paren, left_bracket, right_bracket, left_brace, right_brace, colon, equals, double_equals, double_bar, right_arrow, left_arrow}
use Rattle.meaning.specs.Names.{Meaning, an_input, a_store, a_define, a_production, Names, no_names, Declaration, new_input, new_store, new_define, new_production, new_limit, declare, Program, program_of}

-- N2: "its name can be used only behind that": the name s is declared above, and stands for m
abbrev pub Stands : Names → List ℕ → Meaning → Type 0
Stands ns s m = lookup s ns.declared ≡ some m

-- N1: a set of names "in which none is declared twice"; N6: "declared names, of all four kinds together | 128"
abbrev pub Free : Names → List ℕ → Type 0
Free ns s = (lookup s ns.declared ≡ none) × (length ns.declared < 128)

-- ---- literals

-- G8: "`N` for a single wire, `N[i]` for a bit of any wire", with its place in the word
pub data IsBit (ns : Names) : List Token → List Token → ℕ → Type 0 where
  -- N
  one_bit : {s : List ℕ} {lo : ℕ} {us : List Token} → Stands ns s (an_input lo 1) → IsBit ns (name s ∷ us) us lo
  -- N[i]; G11: "N is any wire, and i a number below its width"
  indexed : {s : List ℕ} {lo width i : ℕ} {us : List Token} → Stands ns s (an_input lo width) → i < width
      → IsBit ns (name s ∷ sign left_bracket ∷ number i ∷ sign right_bracket ∷ us) us (lo + i)

-- G8: "A literal asks one thing of one tick". In `wire == ..`, G12: "any wire may stand, single or field, without an index".
pub data IsLiteral (ns : Names) : List Token → List Token → List Literal → Type 0 where
  -- N    N[i]
  set_bit : {i : ℕ} {ts us : List Token} → IsBit ns ts us i → IsLiteral ns ts us (wire i 1 1 ∷ [])
  -- G9: "`!` stands only before the name of a wire, whose bit must then be 0."
  clear_bit : {i : ℕ} {ts us : List Token} → IsBit ns ts us i → IsLiteral ns (sign bang ∷ ts) us (wire i 1 0 ∷ [])
  -- wire == number; G12: "a number that fits its width", N5: "if it is below 2^width"
  wire_equals_number : {s : List ℕ} {lo width v : ℕ} {us : List Token} → Stands ns s (an_input lo width) → v < 2 ^ width
      → IsLiteral ns (name s ∷ sign double_equals ∷ number v ∷ us) us (wire lo width v ∷ [])
  -- wire == store; G12: "a store of the same width"
  wire_equals_store : {s r : List ℕ} {lo width n : ℕ} {us : List Token} → Stands ns s (an_input lo width) → Stands ns r (a_store n width)
      → IsLiteral ns (name s ∷ sign double_equals ∷ name r ∷ us) us (wire_store lo width n ∷ [])
  -- wire == past(wire); G21: "the same name as outside, letter for letter"
  wire_equals_past : {s : List ℕ} {lo width : ℕ} {us : List Token} → Stands ns s (an_input lo width)
      → IsLiteral ns (name s ∷ sign double_equals ∷ word past ∷ sign left_paren ∷ name s ∷ sign right_paren ∷ us) us (wire_past lo width ∷ [])
  -- store == number; G13: "a number that fits the store's width"
  store_equals_number : {s : List ℕ} {n width v : ℕ} {us : List Token} → Stands ns s (a_store n width) → v < 2 ^ width
      → IsLiteral ns (name s ∷ sign double_equals ∷ number v ∷ us) us (store n v ∷ [])
  -- G6: "Used as a literal the name means all of them"
  defined : {s : List ℕ} {ls : List Literal} {us : List Token} → Stands ns s (a_define ls) → IsLiteral ns (name s ∷ us) us ls

-- G14: "one or more literals joined by `&`"
pub data IsLiterals (ns : Names) : List Token → List Token → List Literal → Type 0 where
  one_literal : {ls : List Literal} {ts us : List Token} → IsLiteral ns ts us ls → IsLiterals ns ts us ls
  and_literal : {ks ls : List Literal} {ts vs us : List Token} → IsLiterals ns ts (sign ampersand ∷ vs) ks → IsLiteral ns vs us ls
      → IsLiterals ns ts us (ks ++ ls)

-- ---- letters

-- G15: "`store <- number;`, with a number that fits the store, or `store <- wire;`, with the name of a wire, single or field, as wide as the store"
pub data IsWrite (ns : Names) : List Token → List Token → Write → Type 0 where
  write_wire : {s r : List ℕ} {n width lo : ℕ} {us : List Token} → Stands ns s (a_store n width) → Stands ns r (an_input lo width)
      → IsWrite ns (name s ∷ sign left_arrow ∷ name r ∷ sign semicolon ∷ us) us (from_wire n lo width)
  write_number : {s : List ℕ} {n width v : ℕ} {us : List Token} → Stands ns s (a_store n width) → v < 2 ^ width
      → IsWrite ns (name s ∷ sign left_arrow ∷ number v ∷ sign semicolon ∷ us) us (from_number n v)

-- G15: "Each write has its own `;`, the last one too."
pub data IsWrites (ns : Names) : List Token → List Token → List Write → Type 0 where
  one_write : {w : Write} {ts us : List Token} → IsWrite ns ts us w → IsWrites ns ts us (w ∷ [])
  next_write : {ws : List Write} {w : Write} {ts vs us : List Token} → IsWrites ns ts vs ws → IsWrite ns vs us w → IsWrites ns ts us (ws ++ (w ∷ []))

-- G14: "and then perhaps braces with one or two writes"; N6: "store tests of a letter; writes of a letter | 2; 2"
pub data IsLetter (ns : Names) : List Token → List Token → Exp → Type 0 where
  no_writes : {ls : List Literal} {ts us : List Token} → IsLiterals ns ts us ls → store_tests ls ≤ 2 → IsLetter ns ts us (a_letter ls [])
  with_writes : {ls : List Literal} {ws : List Write} {ts vs us : List Token} → IsLiterals ns ts (sign left_brace ∷ vs) ls → store_tests ls ≤ 2
      → IsWrites ns vs (sign right_brace ∷ us) ws → length ws ≤ 2 → IsLetter ns ts us (a_letter ls ws)

-- ---- G17: "The operators, from the tightest, are `*`, `@`, `,`, `||`. The last two group to the left"

-- Each with the number of parentheses that may be opened one inside the other (G20).
mutual
  -- G1, `operand`: a letter, a production's name or a parenthesis
  pub data IsAtom (ns : Names) : ℕ → List Token → List Token → Exp → Type 0 where
    of_letter : {n : ℕ} {e : Exp} {ts us : List Token} → IsLetter ns ts us e → IsAtom ns n ts us e
    -- N; G7: "stands for a copy of the whole expression"
    copied : {n : ℕ} {s : List ℕ} {e : Exp} {us : List Token} → Stands ns s (a_production e) → IsAtom ns n (name s ∷ us) us e
    -- (e); G20: "Parentheses hold a whole expression"
    parens : {n : ℕ} {e : Exp} {ts us : List Token} → IsAlternative ns n ts (sign right_paren ∷ us) e → IsAtom ns (suc n) (sign left_paren ∷ ts) us e

  pub data IsStarred (ns : Names) : ℕ → List Token → List Token → Exp → Type 0 where
    unstarred : {n : ℕ} {e : Exp} {ts us : List Token} → IsAtom ns n ts us e → IsStarred ns n ts us e
    -- e*; G18: "An operand takes one `*`"
    starred : {n : ℕ} {e : Exp} {ts us : List Token} → IsAtom ns n ts (sign asterisk ∷ us) e → IsStarred ns n ts us (star e)

  pub data IsPiped (ns : Names) : ℕ → List Token → List Token → Exp → Type 0 where
    unpiped : {n : ℕ} {e : Exp} {ts us : List Token} → IsStarred ns n ts us e → IsPiped ns n ts us e
    -- e @ f; G19: "has one `@` at most"
    piped : {n : ℕ} {e f : Exp} {ts vs us : List Token} → IsStarred ns n ts (sign at_sign ∷ vs) e → IsStarred ns n vs us f → IsPiped ns n ts us (pipe e f)

  pub data IsSequence (ns : Names) : ℕ → List Token → List Token → Exp → Type 0 where
    one-term : {n : ℕ} {e : Exp} {ts us : List Token} → IsPiped ns n ts us e → IsSequence ns n ts us e
    -- e , f; G17: "`a, b, c` is `(a, b), c`"
    followed : {n : ℕ} {e f : Exp} {ts vs us : List Token} → IsSequence ns n ts (sign comma ∷ vs) e → IsPiped ns n vs us f → IsSequence ns n ts us (seq e f)

  pub data IsAlternative (ns : Names) : ℕ → List Token → List Token → Exp → Type 0 where
    one_way : {n : ℕ} {e : Exp} {ts us : List Token} → IsSequence ns n ts us e → IsAlternative ns n ts us e
    -- e || f; G17
    either : {n : ℕ} {e f : Exp} {ts vs us : List Token} → IsAlternative ns n ts (sign double_bar ∷ vs) e → IsSequence ns n vs us f
        → IsAlternative ns n ts us (alt e f)

-- G20: "They nest 32 deep within a production"
abbrev pub IsExpression : Names → List Token → List Token → Exp → Type 0
IsExpression ns ts us e = IsAlternative ns 32 ts us e

-- ---- declarations

-- nothing: one bit; or `[h:0]`, G3: "a field of h+1 wires, where h is 0 to 63"; G5: "a number with the value 0"
pub data IsWidth : List Token → List Token → ℕ → Type 0 where
  no_field : {us : List Token} → IsWidth us us 1
  field_of : {h : ℕ} {us : List Token} → h ≤ 63
      → IsWidth (sign left_bracket ∷ number h ∷ sign colon ∷ number 0 ∷ sign right_bracket ∷ us) us (suc h)

-- G1, `declaration`
pub data IsDeclaration (ns : Names) : List Token → List Token → Declaration → Type 0 where
  -- input N;    input N[h:0];    G3; N6: "wires, a field counted by its width | 64"
  declares_input : {s : List ℕ} {width : ℕ} {ts us : List Token} → Free ns s → IsWidth ts (sign semicolon ∷ us) width → ns.wires + width ≤ 64
      → IsDeclaration ns (word input ∷ name s ∷ ts) us (new_input s width)
  -- internal N = v;    internal N[h:0] = v;    G4: v "must fit its width"; N6: "stores; monitors | 16; 32"
  declares_store : {s : List ℕ} {width v : ℕ} {ts us : List Token} → Free ns s → length ns.initial < 16
      → IsWidth ts (sign equals ∷ number v ∷ sign semicolon ∷ us) width → v < 2 ^ width
      → IsDeclaration ns (word internal ∷ name s ∷ ts) us (new_store s width v)
  -- define N = literals;    G6: "gives a name to literals joined by `&`"
  declares_define : {s : List ℕ} {ls : List Literal} {ts us : List Token} → Free ns s → IsLiterals ns ts (sign semicolon ∷ us) ls
      → IsDeclaration ns (word define ∷ name s ∷ sign equals ∷ ts) us (new_define s ls)
  -- N -> expression;    G7: "`N -> ..;` is a production"
  declares_production : {s : List ℕ} {e : Exp} {ts us : List Token} → Free ns s → IsExpression ns ts (sign semicolon ∷ us) e
      → IsDeclaration ns (name s ∷ sign right_arrow ∷ ts) us (new_production s e)
  -- limit P to n in w;    G22: P is "a production above that is a single letter", "n is at most 1,023, and w above n and at most 1,024"; N6: "limits | 8"
  a_limit : {s : List ℕ} {e : Exp} {p n w : ℕ} {us : List Token} → length ns.limits < 8 → Stands ns s (a_production e) → single e ≡ some p → n ≤ 1023 → n < w → w ≤ 1024
      → IsDeclaration ns (word limit ∷ name s ∷ word to ∷ number n ∷ word inside ∷ number w ∷ sign semicolon ∷ us) us (new_limit p n w)

-- ---- the text

-- G2: "each listing is a monitor of its own, even of the same production"
pub data IsMonitors (ns : Names) : List Token → List Token → List Exp → Type 0 where
  one_monitor : {s : List ℕ} {e : Exp} {us : List Token} → Stands ns s (a_production e) → IsMonitors ns (name s ∷ us) us (e ∷ [])
  next_monitor : {s : List ℕ} {ms : List Exp} {e : Exp} {ts us : List Token} → IsMonitors ns ts (sign comma ∷ name s ∷ us) ms → Stands ns s (a_production e)
      → IsMonitors ns ts us (ms ++ (e ∷ []))

-- G2: "Declarations, perhaps none, stand first. One monitor statement follows and ends the text."
pub data IsText : Names → List Token → Program → Type 0 where
  -- a declaration, whose name, if it declares one, may be used in what stands behind it (N2)
  declares : {ns : Names} {d : Declaration} {p : Program} {ts us : List Token} → IsDeclaration ns ts us d → IsText (declare d ns) us p → IsText ns ts p
  -- monitor names;    N6: "stores; monitors | 16; 32"
  monitors : {ns : Names} {ms : List Exp} {ts : List Token} → IsMonitors ns ts (sign semicolon ∷ end ∷ []) ms → length ms ≤ 32
      → IsText ns (word monitor ∷ ts) (program_of ns ms)

-- the tokens without their places
abbrev pub plain_tokens : List Placed → List Token
plain_tokens ps = map (λ t. t.token) ps

-- G1: "A text is a `text` of this grammar.": its bytes are the program p
abbrev pub IsProgram : List ℕ → Program → Type 0
IsProgram text p = IsText no_names (plain_tokens (tokens rule_words text)) p
