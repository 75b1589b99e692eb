-- The condition of a letter or a define as the code has it, and what the functions that read literals promise (docs/REFERENCE.md,
-- G8 to G14 and G21). Assumes nothing.
use Rattle.std.specs.Prelude.{Bool, false, not, ◌&&◌, List, [], ◌++◌, ◌≡◌, ℕ, ◌+◌, ◌*◌, ◌<◌, ◌≤◌, min, eqb, length, Result}
use Rattle.std.specs.Int.Bits.{bit_or}
use Rattle.lexer.specs.Tokens.{token_at, rule_words}
use Rattle.meaning.specs.Expression.{Literal, wire_store, store_tests}
use Rattle.meaning.specs.ShapeTests.{agree, AllSized}
use Rattle.masks.specs.Masks.{look, want, compatible}
use Rattle.meaning.specs.Answers.{Answer, refused, byte}
use Rattle.refusals.specs.Numbers.{oversize, crowded}
use Rattle.meaning.specs.Reading.{Context, in_define, in_letter, literal_more, sign, store_equals, Step, go, is, and_then, literal_name, known, unless, no_pair, no_literals, no_exp, too_many, with_literal}
use Rattle.meaning.specs.Names.{Names, Program}
use Rattle.rules.specs.declared.literals.Condition.{Condition}
use Rattle.rules.specs.declared.literals.Literals.{Literals}
use Rattle.rules.specs.declared.tokens.Misread.{Misread}
use Rattle.rules.specs.Misreads.{fault_in, at_in, or_in}
use Rattle.rules.specs.Cells.{at, Link, LinkAt, Links, tests_on, held_at, HeldIs, Cells}
use Rattle.lexer.specs.declared.Token.{Token as Seen}
use Rattle.rules.specs.Seen.{seen}
use Rattle.words.specs.Words.{part3}
use Rattle.rules.specs.Reads.{read_from, Unless}

-- ---- words

-- words in use stay as they are, and there may be more
pub record Extends (P : List ℕ) (c : ℕ) (Q : List ℕ) (d : ℕ) : Type 0 where
  pub long : length Q ≡ length P
  pub more : c ≤ d
  pub kept : (i : ℕ) → i < c → at Q i ≡ at P i

-- there is room for three words for each byte that is left
pub record Room (text P : List ℕ) (pos c : ℕ) : Type 0 where
  pub some : 1 ≤ c
  pub fits : c + 3 * length text ≤ length P + 3 * pos
  pub inside : pos ≤ length text
  pub small : length P ≤ 65535

-- no more than three words were used for each byte between two positions
pub record Spent (text : List ℕ) (pos c next d : ℕ) : Type 0 where
  pub since : pos ≤ next
  pub inside : next ≤ length text
  pub few : d + 3 * pos ≤ c + 3 * next

-- ---- conditions

-- the literals' masks; S1: "which bits must be 1, which 0"
pub record MasksAre (q : Condition) (ls : List Literal) : Type 0 where
  pub looks : q.look ≡ look ls
  pub wants : q.want ≡ want ls
  pub agrees : q.agrees ≡ agree ls
  pub sized : AllSized ls

-- masks besides
pub record Joined (q : Condition) (l w : ℕ) (a : Bool) (r : Condition) : Type 0 where
  pub looks : r.look ≡ bit_or q.look l
  pub wants : r.want ≡ bit_or q.want w
  pub agrees : r.agrees ≡ ((q.agrees && a) && compatible q.look q.want l w)
  pub tests : r.tests ≡ q.tests
  pub link : r.link ≡ q.link
  pub held : r.held ≡ q.held

-- the literals' store tests (N7): how many, up to three, and the links of two at most
pub record TestsAre (P : List ℕ) (c tests link : ℕ) (ls : List Literal) : Type 0 where
  pub count : tests ≡ min 3 (store_tests ls)
  pub links : store_tests ls ≤ 2 → Links P c link (tests_on [] ls)
  pub low : link < c

pub record ConditionIs (P : List ℕ) (c : ℕ) (q : Condition) (ls : List Literal) : Type 0 where
  pub masks : MasksAre q ls
  pub tests : TestsAre P c q.tests q.link ls
  pub helds : HeldIs P c q.held ls

-- the store tests that literals may have together: two in a letter; of a define's up to three are counted twice at most
abbrev pub most_of : Context → ℕ
most_of (in_define s) = 6
most_of (in_letter o) = 2

-- ---- reading literals

-- What a function is given: words with room, some names from h on, and some condition.
pub record Given (text P : List ℕ) (pos c h : ℕ) (q : Condition) : Type 0 where
  pub room : Room text P pos c
  pub names : (ns : Names) × Cells text P c h ns.declared
  pub condition : (ls : List Literal) × ConditionIs P c q ls

-- What reading comes to from where a function begins, by the names, by where literals stand, and by those that stand there.
abbrev pub From : Type 0
From = Names → Context → List Literal → Answer Program

-- what reading literals answers: of a refusal, what there was before stands as it was
pub record LiteralsTold : Type 0 where
  pub fault : ℕ
  pub at : ℕ
  pub free : ℕ
  pub condition : Condition

abbrev pub told_literals : (c : ℕ) → Condition → Result Literals Misread → LiteralsTold
told_literals c q r = record { fault = fault_in r; at = at_in (λ l. l.at) r; free = or_in (λ l. l.free) c r; condition = or_in (λ l. l.condition) q r }

-- Literals more are read, and `literal_more` is expected.
pub record Added (text : List ℕ) (from : From) (P : List ℕ) (pos c h : ℕ) (q : Condition) (most : ℕ) (r : LiteralsTold) (Q : List ℕ) : Type 0 where
  pub extends : Extends P c Q r.free
  pub spent : Spent text pos c r.at r.free
  pub few : q.tests ≤ most → r.condition.tests ≤ most
  pub reads : (ns : Names) → Cells text P c h ns.declared → (ls : List Literal) → ConditionIs P c q ls
      → (ms : List Literal) × ConditionIs Q r.free r.condition ms
      × ((x : Context) → most ≡ most_of x → from ns x ls ≡ read_from text r.at ns (literal_more x ms))

abbrev pub Refuses : (text : List ℕ) → From → (P : List ℕ) → (c h : ℕ) → Condition → (most f place : ℕ) → Type 0
Refuses text from P c h q most f place =
    (ns : Names) → Cells text P c h ns.declared → (ls : List Literal) → ConditionIs P c q ls
    → (x : Context) → most ≡ most_of x → from ns x ls ≡ refused f (byte place)

pub record Adds (text : List ℕ) (from : From) (P : List ℕ) (pos c h : ℕ) (q : Condition) (most : ℕ) (r : LiteralsTold) (Q : List ℕ) : Type 0 where
  pub long : length Q ≡ length P
  pub outcome : Unless r.fault (Added text from P pos c h q most r Q) (Refuses text from P c h q most r.fault r.at)

-- the same, and no `&` follows
pub record AllAdded (text : List ℕ) (from : From) (P : List ℕ) (pos c h : ℕ) (q : Condition) (most : ℕ) (r : LiteralsTold) (Q : List ℕ) : Type 0 where
  pub adds : Adds text from P pos c h q most r Q
  pub last : r.fault ≡ 0 → is 4 (token_at rule_words text r.at) ≡ false

-- a link more, unless there are two already
pub record Linked (P : List ℕ) (c tests link : ℕ) (x : Link) (free more new : ℕ) (Q : List ℕ) : Type 0 where
  pub extends : Extends P c Q free
  pub few : free ≤ c + 2
  pub count : more ≡ min 3 (tests + 1)
  pub cell : tests ≤ 1 → LinkAt Q free new x × (part3 (at Q new) ≡ link)
  pub low : new < free

-- the store tests of two lists of literals
pub record LinkedBoth (P : List ℕ) (c tests link more other free all new : ℕ) (Q : List ℕ) : Type 0 where
  pub extends : Extends P c Q free
  pub few : free ≤ c + 2
  pub shared : tests ≡ 0 → free ≡ c
  pub both : (ls ds : List Literal) → TestsAre P c tests link ls → TestsAre P c more other ds → TestsAre Q free all new (ls ++ ds)

-- the wires that two masks hold
pub record HeldBoth (P : List ℕ) (c one other free new : ℕ) (Q : List ℕ) : Type 0 where
  pub extends : Extends P c Q free
  pub few : free ≤ c + 1
  pub shared : one ≡ 0 → free ≡ c
  pub low : new < free
  pub mask : held_at Q new ≡ bit_or (held_at P one) (held_at P other)

-- ---- where the functions begin that have a token already

-- a step, and reading on behind the token
abbrev pub behind : List ℕ → Seen → Step → Answer Program
behind text t s = and_then s (λ ms y. read_from text t.after ms y)

-- the token is compared with wires
abbrev pub by_store : List ℕ → Seen → (lo width : ℕ) → From
by_store text t lo width ns x ls =
    behind text t
    (known ns (seen text t) (no_pair (seen text t))
    (λ s w.
    unless (not (eqb w width)) oversize (seen text t) (unless (too_many x ls 1) crowded (seen text t) (with_literal ns x ls (wire_store lo width s))))
    (no_literals (seen text t)) (no_exp (seen text t)))

-- the token is the name of a define of these literals
abbrev pub by_define : List ℕ → Seen → List Literal → From
by_define text t ds ns x ls = behind text t (unless (too_many x ls (store_tests ds)) crowded (seen text t) (go ns (literal_more x (ls ++ ds))))

-- the token is the name of a store of this number and width
abbrev pub by_test : List ℕ → Seen → (number width : ℕ) → From
by_test text t n w ns x ls = behind text t (unless (too_many x ls 1) crowded (seen text t) (go ns (sign 14 (store_equals x ls n w))))

-- the token begins a literal, and is no name of a production
abbrev pub by_name : List ℕ → Seen → From
by_name text t ns x ls = behind text t (literal_name ns x ls (seen text t) (no_exp (seen text t)))

-- The first literal's name pays for no word: three words a byte are left for what follows it.
abbrev pub Frugal : (tests held : ℕ) → LiteralsTold → (first c : ℕ) → Type 0
Frugal tests held r first c = tests ≡ 0 → held ≡ 0 → r.fault ≡ 0 → r.free + 3 * first ≤ c + 3 * r.at
