-- Statements one after the other, from the beginning of a text on. Assumes nothing.
use mathlib.Core.Path.{◌≡◌, refl, sym, ◌∙◌, ap}
use mathlib.Core.List.{List, []}
use Prim.Native.Nat.{ℕ, ◌+◌, ◌-◌, ◌*◌, ◌<◌, ◌≤◌}
use native.Mathlib.Omega.{arith}
use borrow.Author.Tests.{eq-eqb, le-leb, lt-leb}
use lib.ListN.{length}
use Rattle.lexer.specs.Tokens as token
use Rattle.lexer.specs.Tokens.{Token, Placed, token_at, rule_words}
use Rattle.meaning.specs.Answers.{refused, byte}
use Rattle.meaning.specs.Reading.{Expect, statement, limit_name, monitor_name, go, not_here, choose, if_number, ordinal, begin, step}
use Rattle.meaning.specs.Names.{Names, no_names}
use Rattle.refusals.specs.Refusals as refusal
use Rattle.rules.specs.declared.declarations.Scope.{Scope}
use Rattle.rules.specs.Scopes.{DeclaredTold, told_declared}
use Rattle.rules.specs.declared.declarations.Declared.{Declared}
use Rattle.rules.specs.declared.tokens.Misread.{Misread}
use Rattle.rules.specs.declared.statements.MonitorList.{MonitorList}
use Rattle.rules.specs.Misreads.{fault_in, at_in, or_in}
use Rattle.refusals.specs.declared.Refusal.{Refusal}
use Rattle.std.specs.Prelude.{Result, Ok, Err, MatchResult}
use Rattle.rules.proofs.Misreads.{some}
use Rattle.lexer.specs.declared.Token.{Token as Seen}
use Rattle.lexer.specs.Shown.{word_shown, kind_shown}
use Rattle.lexer.specs.declared.Kind.{Kind}
use Rattle.lexer.specs.declared.Kind.TheVariants as kind
use Rattle.lexer.specs.declared.Word.{Word}
use Rattle.lexer.specs.declared.Word.TheVariants as words
use Rattle.rules.specs.Seen.{fault_of, seen, Sees}
use Rattle.rules.specs.Cells.{Cells, Declared as SomeNames}
use Rattle.rules.specs.Reads.{read_from, Unless, fine, faulted, placed}
use Rattle.rules.specs.Scopes.{Known, Ready, Added, Refuses, Declares}
use Rattle.rules.specs.Statements.{Listing, NotListed, Monitored, Declaring, Stated, TextRead}
use Rattle.meaning.proofs.Outcomes.{ByWord, expected_word, begins_input, begins_store, begins_define, begins_limit, begins_monitor, compared_past}
use Rattle.rules.proofs.Stepping.{well, ill, wrong, right, yes, faults, past, on_step, not-here, of, name-is, word-no-name}
use Rattle.rules.proofs.TaskLaws.{room-on, room_after}
use Rattle.rules.proofs.Declaring.{answered, refuse}

-- ---- one statement

-- it is none of the kinds that begin a statement
pub record BeginsNone (k : Kind) : Type 0 where
  pub name : k ≡ kind.Name → ⊥
  pub input : k ≡ kind.Word words.Input → ⊥
  pub internal : k ≡ kind.Word words.Internal → ⊥
  pub define : k ≡ kind.Word words.Define → ⊥
  pub monitor : k ≡ kind.Word words.Monitor → ⊥
  pub limit : k ≡ kind.Word words.Limit → ⊥

-- the word that a kind has
word_in : Kind → Word
word_in kind.Name = words.To
word_in (kind.Word w) = w
word_in (kind.Number v) = words.To
word_in (kind.Sign g) = words.To
word_in kind.End = words.To
word_in kind.Knot = words.To

-- a word that begins none, and a kind that is neither a name nor a word
pub no-word-begins : {k : Kind} {w : Word} → k ≡ kind.Word w → (w ≡ words.Input → ⊥) → (w ≡ words.Internal → ⊥) → (w ≡ words.Define → ⊥) → (k ≡ kind.Word words.Monitor → ⊥) → (w ≡ words.Limit → ⊥)
    → BeginsNone k
unfolding word_in
no-word-begins {k} {w} q i s d m l =
    record {
      name = λ z. word-no-name (sym q ∙ z);
      input = λ z. i (ap word_in (sym q ∙ z));
      internal = λ z. s (ap word_in (sym q ∙ z));
      define = λ z. d (ap word_in (sym q ∙ z));
      monitor = m;
      limit = λ z. l (ap word_in (sym q ∙ z));
    }

pub none-begins : {k : Kind} → (k ≡ kind.Name → ⊥) → ((w : Word) → k ≡ kind.Word w → ⊥) → BeginsNone k
none-begins n m = record { name = n; input = m words.Input; internal = m words.Internal; define = m words.Define; monitor = m words.Monitor; limit = m words.Limit }

none-kind : (ns : Names) (u : Placed) (s : List ℕ) (k : Kind) → BeginsNone k → begin ns u (kind_shown s k) ≡ not_here u
none-kind ns u s kind.Name n = absurd (n.name refl)
none-kind ns u s (kind.Word words.Input) n = absurd (n.input refl)
none-kind ns u s (kind.Word words.Internal) n = absurd (n.internal refl)
none-kind ns u s (kind.Word words.Define) n = absurd (n.define refl)
none-kind ns u s (kind.Word words.Monitor) n = absurd (n.monitor refl)
none-kind ns u s (kind.Word words.Past) n = refl
none-kind ns u s (kind.Word words.Limit) n = absurd (n.limit refl)
none-kind ns u s (kind.Word words.To) n = refl
none-kind ns u s (kind.Word words.In) n = refl
none-kind ns u s (kind.Number v) n = refl
none-kind ns u s (kind.Sign g) n = refl
none-kind ns u s kind.End n = refl
none-kind ns u s kind.Knot n = refl

module _ (text : List ℕ) (pos : ℕ) (t : Seen) (sees : Sees text pos t) where
  word-is : (w : Word) → t.kind ≡ kind.Word w → seen text t ≡ placed (token.word (word_shown w)) t.place t.after
  word-is w q = of text pos t sees q

  word_on : (w : Word) {x y : Expect} (ns : Names) → ByWord ns (word_shown w) x y → t.kind ≡ kind.Word w → read_from text pos ns x ≡ read_from text t.after ns y
  unfolding step if_number choose
  word_on w {x} {y} ns n q = on_step text pos t sees ns x (go ns y) (ap (step ns x) (word-is w q) ∙ steps n)
    where
      steps : {w : token.Word} {x y : Expect} → ByWord ns w x y → step ns x (placed (token.word w) t.place t.after) ≡ go ns y
      steps (expected_word {w}) = yes _ _ _ (eq-eqb (ordinal w) (ordinal w) refl)
      steps begins_input = refl
      steps begins_store = refl
      steps begins_define = refl
      steps (begins_limit few) = right _ _ _ _ (lt-leb 8 (length ns.limits) few)
      steps begins_monitor = refl
      steps compared_past = refl

  word-past : (w : Word) → t.kind ≡ kind.Word w → (pos < t.after) × (t.after ≤ length text)
  word-past w q = past text pos t sees q tt

  pub name-at : t.kind ≡ kind.Name → (s : List ℕ) × (place : ℕ) × (after : ℕ) × (token_at rule_words text pos ≡ placed (token.name s) place after)
  name-at q = (_, _, _, sym sees.token ∙ name-is text pos t sees q)

  module _ (P S : List ℕ) (c : ℕ) (scope : Scope) where
    pub word-ready : (w : Word) → t.kind ≡ kind.Word w → Ready text P S pos c scope → Ready text P S t.after c scope
    word-ready w q r = let p = word-past w q in record { room = room-on r.room (omega arith) p.1; short = r.short; values = r.values; names = r.names }

    pub word-declares : (w : Word) {x y : Expect} → ((ns : Names) → Known text P S c scope ns → ByWord ns (word_shown w) x y) → t.kind ≡ kind.Word w → (r : DeclaredTold) (Q T : List ℕ)
        → Declares text y P S t.after c scope r Q T → Declares text x P S pos c scope r Q T
    word-declares w {x} {y} v q r Q T d = record { words = d.words; values = d.values; outcome = by d.outcome }
      where
        by : Unless r.fault (Added text y P S t.after c scope r Q T) (Refuses text y P S t.after c scope r.fault r.at)
            → Unless r.fault (Added text x P S pos c scope r Q T) (Refuses text x P S pos c scope r.fault r.at)
        by (fine z a) =
            let p = word-past w q in
            let s = a.spent in
            fine z (record {
              extends = a.extends;
              spent = record { since = omega (arith, s.since); inside = s.inside; few = omega (arith, s.few) };
              further = omega (arith, a.further);
              reads = λ ns k. let (ms, m, on) = a.reads ns k in (ms, m, word_on w ns (v ns k) q ∙ on);
            })
        by (faulted n a) = faulted n (λ ns k. word_on w ns (v ns k) q ∙ a ns k)

    -- X7: 7 "at the word `limit` of a ninth limit"
    pub limits-full : t.kind ≡ kind.Word words.Limit → 8 ≤ scope.limits → Declares text statement P S pos c scope (answered 7 t.place c scope) P S
    unfolding step
    limits-full q l =
        refuse text statement P S pos c scope _ (λ z. omega arith) (λ ns k.
        on_step text pos t sees ns statement _ (ap (step ns statement) (word-is words.Limit q) ∙ wrong _ _ _ _ (le-leb 8 (length ns.limits) (omega (arith, k.limits)))))

    pub limits-left : scope.limits < 8 → (ns : Names) → Known text P S c scope ns → ByWord ns token.limit statement limit_name
    limits-left l ns k = begins_limit (omega (arith, k.limits))

    pub none-declares : BeginsNone t.kind → Declares text statement P S pos c scope (answered (fault_of t.kind) t.place c scope) P S
    unfolding step seen
    none-declares n =
        refuse text statement P S pos c scope _ (faults text pos t sees) (λ ns k.
        on_step text pos t sees ns statement _ (none-kind ns (seen text t) _ t.kind n ∙ not-here text pos t sees))

-- ---- one statement behind another

abbrev pub no_scope : Scope
no_scope = record { last = 0; count = 0; wires = 0; stores = 0; limits = 0 }

pub declared-none : (text P S : List ℕ) → 3 * length text + 2 ≤ length P → length P ≤ 65535 → Declaring text P S (record { at = 0; free = 1; scope = no_scope }) statement
unfolding Cells
declared-none text P S room small =
    record {
      room = record { some = omega arith; fits = omega arith; inside = omega arith; small = small };
      names = no_names;
      known = record {
        cells = refl;
        count = refl;
        few = omega arith;
        wires = refl;
        word = omega arith;
        stores = refl;
        room = omega arith;
        values = refl;
        limits = refl;
        few_limits = omega arith;
        bounds = refl;
        low = omega arith;
      };
      reads = refl;
    }

module _ (text P S : List ℕ) (d : Declared) (so : Declaring text P S d statement) where
  pub declared-ready : length text ≤ 16384 → length S ≡ 24 → Ready text P S d.at d.free d.scope
  declared-ready l e = record { room = so.room; short = l; values = e; names = (so.names, so.known) }

  pub declared-monitor : (t : Seen) → Sees text d.at t → t.kind ≡ kind.Word words.Monitor → Declaring text P S (record { at = t.after; free = d.free; scope = d.scope }) (monitor_name [])
  declared-monitor t sees q =
      let p = word-past text d.at t sees words.Monitor q in
      record { room = room-on so.room (omega arith) p.1; names = so.names; known = so.known; reads = so.reads ∙ word_on text d.at t sees words.Monitor so.names begins_monitor q }

  module _ (r : DeclaredTold) (Q T : List ℕ) (one : Declares text statement P S d.at d.free d.scope r Q T) where
    pub declared-refused : (r.fault ≡ 0 → ⊥) → read_from text 0 no_names statement ≡ refused r.fault (byte r.at)
    declared-refused n = so.reads ∙ ill one.outcome n so.names so.known

  module _ (r : Declared) (Q T : List ℕ) (one : Declares text statement P S d.at d.free d.scope (told_declared d.free d.scope (Ok r)) Q T) where
    pub declared-next : Declaring text Q T r statement
    declared-next =
        let a = well one.outcome refl in
        let (ms, m, on) = a.reads so.names so.known in
        record { room = room_after so.room a.extends a.spent; names = ms; known = m; reads = so.reads ∙ on }

    pub declared-less : length text - r.at < length text - d.at
    declared-less = let a = well one.outcome refl in omega (arith, a.further, a.spent.inside)

-- ---- a text

pub text-refused : (text P S : List ℕ) (e : Misread) (Q T : List ℕ) → Stated text P S (Err e) Q T → (M : List ℕ) → TextRead text (Err e) Q T M
unfolding TextRead read_from
text-refused text P S e Q T s M = s.outcome

module _ (text : List ℕ) (d : Declared) (Q T : List ℕ) (a : Declaring text Q T d (monitor_name [])) where
  pub text-names : SomeNames text Q d.scope.last
  text-names = let r = a.room in (d.free, a.names.declared, omega (arith, r.fits, r.inside), a.known.cells)

  pub text-ok : (at : ℕ) (M : List ℕ) (count : ℕ) → Monitored text Q d.scope.last d.at 0 at M count
      → TextRead text (Ok (record { free = d.free; wires = d.scope.wires; stores = d.scope.stores; limits = d.scope.limits; count = count })) Q T M
  unfolding TextRead read_from Monitored Listing NotListed
  text-ok at M count u =
      let r = a.room in
      let k = a.known in
      let (ms, w, e) = well u refl d.free a.names (omega (arith, r.fits, r.inside)) k.cells in
      record {
        program = _;
        reads = a.reads ∙ e;
        monitors = w;
        width = k.wires;
        number = k.stores;
        values = k.values;
        word = k.word;
        few = k.room;
        limited = k.limits;
        bounds = k.bounds;
        few_limits = k.few_limits;
      }

  pub text-unread : (why : Refusal) (place : ℕ) (M : List ℕ) (count : ℕ) → Monitored text Q d.scope.last d.at (refusal.number_of why) place M count
      → TextRead text (Err (record { why = why; place = place })) Q T M
  unfolding TextRead read_from Monitored Listing NotListed
  text-unread why place M count u =
      let r = a.room in
      let k = a.known in
      a.reads ∙ ill u (some why) d.free a.names (omega (arith, r.fits, r.inside)) k.cells

  pub text-read : (r : Result MonitorList Misread) (M : List ℕ) → Monitored text Q d.scope.last d.at (fault_in r) (at_in (λ m. m.at) r) M (or_in (λ m. m.count) 0 r)
      → MatchResult r (λ m. TextRead text (Ok (record { free = d.free; wires = d.scope.wires; stores = d.scope.stores; limits = d.scope.limits; count = m.count })) Q T M)
      (λ e. TextRead text (Err e) Q T M)
  text-read (Ok m) M u = text-ok m.at M m.count u
  text-read (Err e) M u = text-unread e.why e.place M 0 u
