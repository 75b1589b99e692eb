-- What a function of the reader promises, whatever it reads. It begins with something of type S that the code has (`Before`) and ends with something of type T that it then has
-- (`After`); the rest of what reading keeps is x, which the code does not look at but for what is `good`. Assumes nothing.
use Rattle.std.specs.Prelude.{false, List, [], ◌≡◌, ℕ, ◌<◌, ◌≤◌, length, Result}
use Rattle.meaning.specs.Expression.{Literal, Write, a_letter}
use Rattle.meaning.specs.Answers.{Answer, refused, byte}
use Rattle.meaning.specs.Reading.{Open, Expect, write_store, write_more, operand_more}
use Rattle.meaning.specs.Names.{Names, Program}
use Rattle.rules.specs.declared.tokens.Misread.{Misread}
use Rattle.rules.specs.declared.writes.Written.{Written}
use Rattle.rules.specs.Misreads.{fault_in, at_in, or_in}
use Rattle.rules.specs.Cells.{Links, writes_on, Cells}
use Rattle.rules.specs.Reads.{read_from, Unless}
use Rattle.rules.specs.Conditions.{Extends, Room, Spent}

pub record Gains (text P : List ℕ) (pos c h : ℕ) (S T X : Type 0) (Before : S → Type 0) (After : T → Type 0) (good : X → Type 0)
    (from : Names → X → S → Answer Program) (to : X → T → Expect) (next free : ℕ) (Q : List ℕ) : Type 0 where
  pub extends : Extends P c Q free
  pub spent : Spent text pos c next free
  pub reads : (ns : Names) → Cells text P c h ns.declared → (s : S) → Before s → (t : T) × After t × ((x : X) → good x → from ns x s ≡ read_from text next ns (to x t))

abbrev pub Fails : (text P : List ℕ) → (c h : ℕ) → (S X : Type 0) → (Before : S → Type 0) → (good : X → Type 0) → (from : Names → X → S → Answer Program) → (f place : ℕ) → Type 0
Fails text P c h S X Before good from f place =
    (ns : Names) → Cells text P c h ns.declared → (s : S) → Before s → (x : X) → good x → from ns x s ≡ refused f (byte place)

pub record Task (text P : List ℕ) (pos c h : ℕ) (S T X : Type 0) (Before : S → Type 0) (After : T → Type 0) (good : X → Type 0)
    (from : Names → X → S → Answer Program) (to : X → T → Expect) (f next free : ℕ) (Q : List ℕ) : Type 0 where
  pub long : length Q ≡ length P
  pub outcome : Unless f (Gains text P pos c h S T X Before After good from to next free Q) (Fails text P c h S X Before good from f next)

-- ---- writes

-- the writes of a letter so far (G15): how many, and the last of their links
pub record WritesAre (P : List ℕ) (c n i : ℕ) (ws : List Write) : Type 0 where
  pub count : n ≡ length ws
  pub few : length ws ≤ 2
  pub links : Links P c i (writes_on [] ws)
  pub low : i < c

-- where writes stand: a production that is read, and a letter's literals
pub record Letter : Type 0 where
  pub within : Open
  pub literals : List Literal

abbrev pub AnyLetter : Letter → Type 0
AnyLetter x = Unit {0}

-- What a function is given that reads writes.
pub record Writing (text P : List ℕ) (pos c h n i : ℕ) : Type 0 where
  pub room : Room text P pos c
  pub names : (ns : Names) × Cells text P c h ns.declared
  pub writes : (ws : List Write) × WritesAre P c n i ws

abbrev pub behind_write : Letter → List Write → Expect
behind_write x ws = write_more x.within x.literals ws

-- One write more.
abbrev pub Writes : (text P : List ℕ) → (pos c h n i : ℕ) → (from : Names → Letter → List Write → Answer Program) → (f next free m j : ℕ) → List ℕ → Type 0
Writes text P pos c h n i from f next free m j Q =
    Task text P pos c h (List Write) (List Write) Letter (WritesAre P c n i) (WritesAre Q free m j) AnyLetter from behind_write f next free Q

-- the letter stands
abbrev pub behind_letter : Letter → List Write → Expect
behind_letter x ws = operand_more x.within (a_letter x.literals ws) false

-- All writes of a letter: those behind one, and all behind `{`.
abbrev pub RestWritten : (text P : List ℕ) → (pos c h n i f next free m j : ℕ) → List ℕ → Type 0
RestWritten text P pos c h n i f next free m j Q =
    Task text P pos c h (List Write) (List Write) Letter (WritesAre P c n i) (WritesAre Q free m j) AnyLetter (λ ns x ws. read_from text pos ns (behind_write x ws)) behind_letter f next free Q

abbrev pub AllWritten : (text P : List ℕ) → (pos c h f next free m j : ℕ) → List ℕ → Type 0
AllWritten text P pos c h f next free m j Q =
    Task text P pos c h (Unit {0}) (List Write) Letter (λ s. Unit {0}) (WritesAre Q free m j) AnyLetter
    (λ ns x s. read_from text pos ns (write_store x.within x.literals [])) behind_letter f next free Q

-- the same of what the code answers; of a refusal, what there was before stands as it was
abbrev pub WriteRead : (text P : List ℕ) → (pos c h n i : ℕ) → (from : Names → Letter → List Write → Answer Program) → Result Written Misread → List ℕ → Type 0
WriteRead text P pos c h n i from r Q =
    Writes text P pos c h n i from (fault_in r) (at_in (λ w. w.at) r) (or_in (λ w. w.free) c r) (or_in (λ w. w.count) n r) (or_in (λ w. w.link) i r) Q

abbrev pub RestRead : (text P : List ℕ) → (pos c h n i : ℕ) → Result Written Misread → List ℕ → Type 0
RestRead text P pos c h n i r Q =
    RestWritten text P pos c h n i (fault_in r) (at_in (λ w. w.at) r) (or_in (λ w. w.free) c r) (or_in (λ w. w.count) n r) (or_in (λ w. w.link) i r) Q

abbrev pub WritesRead : (text P : List ℕ) → (pos c h : ℕ) → Result Written Misread → List ℕ → Type 0
WritesRead text P pos c h r Q =
    AllWritten text P pos c h (fault_in r) (at_in (λ w. w.at) r) (or_in (λ w. w.free) c r) (or_in (λ w. w.count) 0 r) (or_in (λ w. w.link) 0 r) Q
