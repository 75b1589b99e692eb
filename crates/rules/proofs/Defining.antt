-- A define or a production more, whatever it stands for: its name and the sign behind it, what is read then, its cell, and what is known of the names. Assumes nothing.
use mathlib.Core.Path.{◌≡◌, refl, sym, ◌∙◌, subst}
use mathlib.Core.Bool.{false}
use mathlib.Core.List.{List}
use Prim.Native.Nat.{ℕ, ◌+◌, ◌-◌, ◌<◌, ◌≤◌}
use native.Mathlib.Omega.{arith}
use lib.ListN.{length, take, drop}
use Rattle.meaning.specs.Reading.{Expect, statement, sign, step}
use Rattle.meaning.specs.Names.{Names, Meaning, with_name, Declaration, declare}
use Rattle.rules.specs.declared.declarations.Scope.{Scope}
use Rattle.rules.specs.Reads.{read_from, fine, faulted, Behind}
use Rattle.rules.specs.Scopes.{Known, Ready, Declares, NameRead}
use Rattle.rules.specs.Expressions.{Named}
use Rattle.rules.specs.Defined.{Begins, BegunAt, BeginRead, Defines, CellWritten}
use Rattle.rules.proofs.Stepping.{well, ill, behind-past}
use Rattle.rules.proofs.Put.{extends-then}
use Rattle.rules.proofs.TaskLaws.{room-on}
use Rattle.rules.proofs.NewNames.{name-read, name-refused, name-on}
use Rattle.rules.proofs.Widths.{signed}
use Rattle.rules.proofs.Declaring.{cell-added, answered}

-- ---- the name, and the sign behind it

module _ (text P : List ℕ) (scope : Scope) (pos f place after : ℕ) (name : NameRead text P scope pos false false f place after) (k : ℕ) where
  pub begin-no-name : (f ≡ 0 → ⊥) → (from size : ℕ) → BeginRead text P scope pos k f place from size
  unfolding BeginRead
  begin-no-name n from size = faulted n (λ S c ns w x then b. name-refused text P scope pos false false f place after name c ns w.cells w.count x _ b n)

  module _ (z : f ≡ 0) where
    behind-name : (S : List ℕ) (c : ℕ) (ns : Names) → Known text P S c scope ns → (x : Expect) (then : List ℕ → Expect) → Begins text pos k ns x then
        → read_from text pos ns x ≡ read_from text after ns (sign k (then (take (after - place) (drop place text))))
    behind-name S c ns w x then b = name-on text P scope pos false false f place after name c ns w.cells w.count x _ b z

    pub begin-read : (g a : ℕ) → Behind text after g a (sign k) → BeginRead text P scope pos k g a place (after - place)
    unfolding BeginRead Behind
    begin-read g a (fine o (l, on)) =
        let m = name-read text P scope pos false false f place after name z in
        fine o (record {
          low = m.low;
          some = omega (arith, m.some);
          past = omega (arith, m.some);
          inside = l.1;
          few = m.few;
          leads = λ S c ns w x then b. behind-name S c ns w x then b ∙ on ns _;
        })
    begin-read g a (faulted o on) = faulted o (λ S c ns w x then b. behind-name S c ns w x then b ∙ on ns _)

    pub begin-unread : (g a : ℕ) → Behind text after g a (sign k) → (g ≡ 0 → ⊥) → (from size : ℕ) → BeginRead text P scope pos k g a from size
    unfolding BeginRead Behind
    begin-unread g a end n from size = faulted n (λ S c ns w x then b. behind-name S c ns w x then b ∙ ill end n ns _)

-- ---- what is known of the names

-- the scope with a name more, and the names
abbrev pub with_cell : Scope → (h : ℕ) → Scope
with_cell scope h = record { last = h; count = scope.count + 1; wires = scope.wires; stores = scope.stores; limits = scope.limits }

abbrev pub with_meaning : List ℕ → Meaning → Names → Names
with_meaning s m ns = record { declared = with_name s m ns.declared; wires = ns.wires; initial = ns.initial; limits = ns.limits }

-- ---- what the functions are given

module _ (text P : List ℕ) (scope : Scope) (pos k f a place size : ℕ) (begun : BeginRead text P scope pos k f a place size) (z : f ≡ 0) where
  begun-at : BegunAt text P scope pos k a place size
  unfolding BeginRead
  begun-at = well begun z

  module _ (c : ℕ) (S : List ℕ) (r : Ready text P S pos c scope) where
    -- to read what the name stands for
    pub body-given : Named text P a c scope.last
    body-given =
        let b = begun-at in
        let (ns, w) = r.names in
        record { room = room-on r.room (omega (arith, b.low, b.past)) b.inside; names = (ns, w.cells) }

    -- to write the cell
    pub cell_room : (T : Type 0) (After : T → Type 0) (then : List ℕ → Expect) (new : List ℕ → T → Declaration) (g n d : ℕ) (Q : List ℕ)
        → Defines text P a c scope.last T After then new g n d Q → g ≡ 0 → (i e : ℕ) → Behind text n i e (sign 0) → i ≡ 0
        → (d + 4 ≤ length Q) × (length Q ≤ 65535) × (scope.last < 65536) × (place < 65536) × (size < 65536) × ((t : T) × After t) × (scope.count < 128)
    cell_room T After then new g n d Q body y i e end x =
        let b = begun-at in
        let gains = well body.outcome y in
        let s = gains.spent in
        let o = behind-past text n i e (sign 0) end x in
        let q = r.room in
        let (ns, w) = r.names in
        let (t, u, on) = gains.reads ns w.cells tt tt in
        let fits : d + 4 ≤ length P = omega (arith, q.fits, s.few, b.low, b.some, b.past) in (
          omega (arith, body.long),
          omega (arith, body.long, q.small),
          omega (arith, q.small, w.low),
          omega (arith, r.short, b.past, b.inside),
          omega (arith, r.short, b.past, b.inside),
          (t, u),
          b.few,
        )

-- ---- the whole declaration

module _ (text P : List ℕ) (scope : Scope) (pos k f a place size : ℕ) (begun : BeginRead text P scope pos k f a place size) (c : ℕ) (S : List ℕ) (state : Expect) (then : List ℕ → Expect)
    (begins : (ns : Names) → Begins text pos k ns state then) where
  pub no-begin : (f ≡ 0 → ⊥) → Declares text state P S pos c scope (answered f a c scope) P S
  unfolding BeginRead
  no-begin n = record { words = refl; values = refl; outcome = faulted n (λ ns w. ill begun n S c ns w state then (begins ns)) }

  module _ (z : f ≡ 0) (T : Type 0) (After : T → Type 0) (new : List ℕ → T → Declaration) (g n d : ℕ) (Q : List ℕ) (body : Defines text P a c scope.last T After then new g n d Q) where
    -- the name's bytes
    abbrev bytes : List ℕ
    bytes = take size (drop place text)

    begun-here : BegunAt text P scope pos k a place size
    begun-here = begun-at text P scope pos k f a place size begun z

    behind-begin : (ns : Names) → Known text P S c scope ns → read_from text pos ns state ≡ read_from text a ns (then bytes)
    behind-begin ns w = begun-here.leads S c ns w state then (begins ns)

    pub no_body : (g ≡ 0 → ⊥) → Declares text state P S pos c scope (answered g n c scope) Q S
    no_body m = record { words = body.long; values = refl; outcome = faulted m (λ ns w. behind-begin ns w ∙ ill body.outcome m ns w.cells tt tt bytes tt) }

    module _ (y : g ≡ 0) (i e : ℕ) (end : Behind text n i e (sign 0)) where
      -- before `;`
      behind-body : (ns : Names) → Known text P S c scope ns
          → (t : T) × After t × (read_from text pos ns state ≡ read_from text n (declare (new bytes t) ns) (sign 0 statement))
      unfolding step
      behind-body ns w =
          let (t, u, on) = (well body.outcome y).reads ns w.cells tt tt in
          (t, u, behind-begin ns w ∙ on bytes tt ∙ signed text n ns _ _ _ 0 (λ t. refl))

      pub no_end : (i ≡ 0 → ⊥) → Declares text state P S pos c scope (answered i e c scope) Q S
      unfolding Behind
      no_end m = record { words = body.long; values = refl; outcome = faulted m (λ ns w. let (t, u, on) = behind-body ns w in on ∙ ill end m _ _) }

      pub definition-read : i ≡ 0 → 1 ≤ c → (h m : ℕ) → 1 ≤ m → (mean : T → Meaning)
          → ((s : List ℕ) (t : T) (ns : Names) → scope.count ≡ length ns.declared → declare (new s t) ns ≡ with_meaning s (mean t) ns)
          → (R : List ℕ) → CellWritten Q d h m scope.last place size T After mean R → Declares text state P S pos c scope (answered 0 e (h + m) (with_cell scope h)) R S
      unfolding Behind
      definition-read x some h m one mean is R cell =
          let b = begun-here in
          let gains = well body.outcome y in
          let s = gains.spent in
          let extends = extends-then gains.extends cell.extends in
          let (o, on) = well end x in
          record {
            words = extends.long;
            values = refl;
            outcome = fine refl (record {
              extends = extends;
              spent = record { since = omega (arith, b.low, b.past, s.since); inside = o.1; few = omega (arith, s.few, b.low, b.some, b.past, cell.few) };
              further = omega (arith, b.low, b.past, s.since);
              reads = λ ns w.
                  let (t, u, to) = behind-body ns w in (
                    _,
                    subst (Known text R S (h + m) (with_cell scope h)) (sym (is bytes t ns w.count)) (record {
                      cells = cell-added text P c R h (h + m) scope.last place size ns.declared (mean t) (omega (arith, gains.extends.more, cell.since)) (omega (arith, w.low, gains.extends.more, cell.since)) (omega arith)
                          (omega (arith, b.past, b.inside)) w.cells extends cell.head (cell.means t u);
                      count = omega (arith, w.count);
                      few = omega (arith, b.few);
                      wires = w.wires;
                      word = w.word;
                      stores = w.stores;
                      room = w.room;
                      values = w.values;
                      limits = w.limits;
                      few_limits = w.few_limits;
                      bounds = w.bounds;
                      low = omega arith;
                    }),
                    to ∙ on _ _,
                  );
            });
          }
