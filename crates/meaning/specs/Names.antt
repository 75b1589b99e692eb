-- What a rule text declares and what it comes to (docs/REFERENCE.md, N1 to N3 and N8): names and what they stand for, declarations, and the program. Assumes nothing.
use Rattle.std.specs.Prelude.{List, [], ◌∷◌, ◌++◌, ℕ, ◌+◌, length}
use Rattle.lexer.specs.Bytes.{Entry}
use Rattle.meaning.specs.Expression.{Literal, Exp, as_production}

-- What a name stands for. N1: "A name is declared as one of four kinds". S1: production names "are replaced by copies of their expressions until letters
-- and operators alone are left, and in each letter defines by their literals", so no names are left in either.
pub data Meaning : Type 0 where
  an_input : (lo width : ℕ) → Meaning
  a_store : (number width : ℕ) → Meaning
  a_define : List Literal → Meaning
  a_production : Exp → Meaning

-- G22: "at most n of any w ticks in a row" may meet letters that came through the production with this number
pub record Limit : Type 0 where
  pub production : ℕ
  pub most : ℕ  -- n
  pub window : ℕ  -- w

-- N1: "All kinds share one set of names"
pub record Names : Type 0 where
  pub declared : List (Entry Meaning)
  -- how many wires of the word are taken
  pub wires : ℕ
  -- the first values of the stores
  pub initial : List ℕ
  -- the limits, G22: "numbered from 0 in this order"
  pub limits : List Limit

abbrev pub no_names : Names
no_names = record { declared = []; wires = 0; initial = []; limits = [] }

-- G1, `declaration`
pub data Declaration : Type 0 where
  new_input : List ℕ → (width : ℕ) → Declaration
  new_store : List ℕ → (width initial : ℕ) → Declaration
  new_define : List ℕ → List Literal → Declaration
  new_production : List ℕ → Exp → Declaration
  new_limit : (production most window : ℕ) → Declaration

abbrev pub with_name : List ℕ → Meaning → List (Entry Meaning) → List (Entry Meaning)
with_name s m es = record { spelling = s; meaning = m } ∷ es

-- N3: "from bit 0 on and without gaps, in the order of their declarations". G4: "v is its first value". N8: a production's
-- number is "how many names are declared above it". G22: a limit "declares no name".
unfoldable pub declare : Declaration → Names → Names
declare (new_input s width) ns =
    record { declared = with_name s (an_input ns.wires width) ns.declared; wires = ns.wires + width; initial = ns.initial; limits = ns.limits }
declare (new_store s width v) ns =
    record { declared = with_name s (a_store (length ns.initial) width) ns.declared; wires = ns.wires; initial = ns.initial ++ (v ∷ []); limits = ns.limits }
declare (new_define s ls) ns = record { declared = with_name s (a_define ls) ns.declared; wires = ns.wires; initial = ns.initial; limits = ns.limits }
declare (new_production s e) ns =
    record {
      declared = with_name s (a_production (as_production (length ns.declared) e)) ns.declared;
      wires = ns.wires;
      initial = ns.initial;
      limits = ns.limits;
    }
declare (new_limit p n w) ns =
    record {
      declared = ns.declared;
      wires = ns.wires;
      initial = ns.initial;
      limits = ns.limits ++ (record { production = p; most = n; window = w } ∷ []);
    }

-- What a text comes to: the number of wires, the stores' first values, the monitors (G2: "numbered in this order") and the limits.
pub record Program : Type 0 where
  pub wires : ℕ
  pub initial : List ℕ
  pub monitors : List Exp
  pub limits : List Limit

abbrev pub program_of : Names → List Exp → Program
program_of ns ms = record { wires = ns.wires; initial = ns.initial; monitors = ms; limits = ns.limits }
