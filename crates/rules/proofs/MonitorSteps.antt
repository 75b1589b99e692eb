-- Monitors' names one after the other, and the end of the text behind them. Assumes nothing.
use mathlib.Core.Path.{◌≡◌, refl, ◌∙◌, ap}
use mathlib.Core.List.{List, [], ◌∷◌, ◌++◌}
use mathlib.Core.Option.{some}
use Prim.Native.Nat.{ℕ, ◌+◌, ◌-◌, ◌<◌, ◌≤◌}
use native.Mathlib.Omega.{arith}
use borrow.Author.Tests.{le-leb, lt-leb}
use lib.ListN.{length, set}
use Rattle.lexer.specs.Tokens.{Placed}
use Rattle.meaning.specs.Expression.{Exp, Literal}
use Rattle.meaning.specs.Reading.{by_kind, Step, finished, not_here, known, no_pair, no_literals, monitor_name, monitor_more, text_end, at_end, step}
use Rattle.meaning.specs.Names.{Names, a_production, program_of}
use Rattle.lexer.specs.declared.Token.{Token as Seen}
use Rattle.lexer.specs.Shown.{kind_shown}
use Rattle.lexer.specs.declared.Kind.{Kind}
use Rattle.lexer.specs.declared.Kind.TheVariants as kind
use Rattle.lexer.specs.declared.Sign.TheVariants as signs
use Rattle.rules.specs.Seen.{fault_of, seen, Sees}
use Rattle.rules.specs.Cells.{ProductionAt, Cells, Declared}
use Rattle.rules.specs.Picks.{Only, Picks}
use Rattle.rules.specs.Reads.{read_from, fine, faulted}
use Rattle.rules.specs.Statements.{OneListed, Listing, NotListed, AllListed, Monitored}
use Rattle.rules.proofs.Stepping.{well, ill, wrong, right, yes, no, faults, past, on_step, is-on, is-off, not-here, other-sign}
use Rattle.rules.proofs.Picking.{known-name}
use Rattle.rules.proofs.LetterSteps.{production-of}
use Rattle.rules.proofs.Listing.{monitors-none, monitors-more}

-- ---- one name

-- of a production
module _ (text P : List ℕ) (h pos : ℕ) (t : Seen) (sees : Sees text pos t) (f cell : ℕ) (pick : Picks text P h t 3 f cell) where
  pub only-productions : (p : Exp → Step) → Only 3 (seen text t) (no_pair (seen text t)) (no_pair (seen text t)) (no_literals (seen text t)) p
  only-productions p = record { inputs = λ z. refl; stores = λ z. refl; defines = λ z. refl; productions = λ z. absurd (z refl) }

  module _ (z : f ≡ 0) where
    pub the-production : (c : ℕ) (ns : Names) → Cells text P c h ns.declared
        → (e : Exp) × ProductionAt P c cell e × (t.kind ≡ kind.Name) × ((p r : ℕ → ℕ → Step) (d : List Literal → Step) (o : Exp → Step) → known ns (seen text t) p r d o ≡ o e)
    unfolding Picks by_kind
    the-production c ns k =
        let p = well (pick c ns k) z in
        let (e, q, st) = production-of P c cell p.meaning p.means p.of in
        (e, st, p.name, λ i s d o. known-name text pos t sees p.name ns (some (a_production e)) (p.found ∙ ap some q) i s d o)

    -- where some names are declared
    pub declares_production : Declared text P h → (c : ℕ) × (e : Exp) × (c ≤ length P) × ProductionAt P c cell e × (t.kind ≡ kind.Name)
    declares_production (c, es, l, k) = let (e, st, q, on) = the-production c (record { declared = es; wires = 0; initial = []; limits = [] }) k in (c, e, l, st, q)

-- of a monitor
module _ (text P : List ℕ) (h pos : ℕ) (t : Seen) (sees : Sees text pos t) (f cell : ℕ) (pick : Picks text P h t 3 f cell) (M : List ℕ) (n : ℕ) where
  pub monitor-unknown : (f ≡ 0 → ⊥) → OneListed text P h pos M n f t.place M n
  unfolding OneListed Picks step
  monitor-unknown z =
      faulted z (λ c ns k ms a. on_step text pos t sees ns (monitor_name ms) _ (ill (pick c ns k) z _ _ _ _ (only-productions text P h pos t sees f cell pick _)))

  module _ (z : f ≡ 0) where
    pub monitor-inside : Declared text P h → cell < length P
    monitor-inside d = let (c, e, l, st, q) = declares_production text P h pos t sees f cell pick z d in omega (arith, st.used)

    pub monitor-crowded : 32 ≤ n → OneListed text P h pos M n 7 t.place M n
    unfolding OneListed step seen
    monitor-crowded l =
        faulted (λ y. omega arith) (λ c ns k ms a.
        let (e, st, q, on) = the-production text P h pos t sees f cell pick z c ns k in
        on_step text pos t sees ns (monitor_name ms) _ (on _ _ _ _ ∙ wrong _ _ _ _ (le-leb 32 (length ms) (omega (arith, a.number)))))

    pub monitor-listed : Declared text P h → n < 32 → n < length M → OneListed text P h pos M n 0 t.after (set M n cell) (n + 1)
    unfolding OneListed step
    monitor-listed d l m =
        let (b, x, i, xt, q) = declares_production text P h pos t sees f cell pick z d in
        fine refl (record {
          past = past text pos t sees q tt;
          reads = λ c ns k ms a.
              let (e, st, q, on) = the-production text P h pos t sees f cell pick z c ns k in (
                ms ++ (e ∷ []),
                monitors-more P c M e cell n m st ms a l,
                on_step text pos t sees ns (monitor_name ms) _ (on _ _ _ _ ∙ right _ _ _ _ (lt-leb 32 (length ms) (omega (arith, a.number)))),
              );
        })

-- ---- one name behind another

module _ (text P : List ℕ) (h pos : ℕ) where
  -- monitors that are listed so far, and a name is expected
  abbrev pub So : (next : ℕ) → List ℕ → ℕ → Type 0
  So next M n = Listing text P h pos M n (λ ns ms. read_from text next ns (monitor_name ms))

  pub so-none : (M : List ℕ) → So pos M 0
  unfolding Listing
  so-none M c ns l k = ([], monitors-none P c M l, refl)

  module _ (next : ℕ) (M : List ℕ) (n : ℕ) (so : So next M n) (f a : ℕ) (N : List ℕ) (m : ℕ) (one : OneListed text P h next M n f a N m) where
    pub so-refused : (f ≡ 0 → ⊥) → (k : ℕ) → AllListed text P h pos f a N k
    unfolding AllListed Listing NotListed OneListed
    so-refused z k = faulted z (λ c ns l k. let (ms, w, on) = so c ns l k in on ∙ ill one z c ns k ms w)

    module _ (z : f ≡ 0) (t : Seen) (sees : Sees text a t) where
      -- behind the name
      behind-name : Listing text P h pos N m (λ ns ms. read_from text a ns (monitor_more ms))
      unfolding Listing OneListed
      behind-name c ns l k =
          let (ms, w, on) = so c ns l k in
          let (vs, x, by) = (well one z).reads c ns k ms w in
          (vs, x, on ∙ by)

      pub so-next : t.kind ≡ kind.Sign signs.Comma → So t.after N m
      unfolding Listing step
      so-next q c ns l k =
          let (ms, w, on) = behind-name c ns l k in
          (ms, w, on ∙ on_step text a t sees ns (monitor_more ms) _ (yes _ _ _ (is-on text a t sees signs.Comma q)))

      pub so-less : t.kind ≡ kind.Sign signs.Comma → length text - t.after < length text - next
      unfolding OneListed
      so-less q = let y = (well one z).past in let p = past text a t sees q tt in omega arith

      pub so-ends : t.kind ≡ kind.Sign signs.Semicolon → AllListed text P h pos 0 t.after N m
      unfolding AllListed Listing step
      so-ends q =
          fine refl (λ c ns l k.
          let (ms, w, on) = behind-name c ns l k in
          (ms, w, on ∙ on_step text a t sees ns (monitor_more ms) _ (no _ _ _ (is-off text a t sees signs.Comma (other-sign q (λ y. omega arith))) ∙ yes _ _ _ (is-on text a t sees signs.Semicolon q))))

      pub so-stops : (t.kind ≡ kind.Sign signs.Semicolon → ⊥) → (t.kind ≡ kind.Sign signs.Comma → ⊥) → (k : ℕ) → AllListed text P h pos (fault_of t.kind) t.place N k
      unfolding AllListed Listing NotListed step
      so-stops q r k =
          faulted (faults text a t sees) (λ c ns l k.
          let (ms, w, on) = behind-name c ns l k in
          on ∙ on_step text a t sees ns (monitor_more ms) _
          (no _ _ _ (is-off text a t sees signs.Comma r) ∙ no _ _ _ (is-off text a t sees signs.Semicolon q) ∙ not-here text a t sees))

-- ---- the end

-- a token that is the end, and one that is not
end-kind : (ns : Names) (ms : List Exp) (u : Placed) (s : List ℕ) (k : Kind) → (k ≡ kind.End → ⊥) → at_end ns ms u (kind_shown s k) ≡ not_here u
end-kind ns ms u s kind.Name n = refl
end-kind ns ms u s (kind.Word w) n = refl
end-kind ns ms u s (kind.Number v) n = refl
end-kind ns ms u s (kind.Sign g) n = refl
end-kind ns ms u s kind.End n = absurd (n refl)
end-kind ns ms u s kind.Knot n = refl

module _ (text P : List ℕ) (h pos f at : ℕ) (M : List ℕ) (n : ℕ) (all : AllListed text P h pos f at M n) where
  pub monitors-refused : (f ≡ 0 → ⊥) → Monitored text P h pos f at M n
  unfolding AllListed Monitored
  monitors-refused z = faulted z (ill all z)

  module _ (z : f ≡ 0) (t : Seen) (sees : Sees text at t) where
    pub monitors-unended : (t.kind ≡ kind.End → ⊥) → (k : ℕ) → Monitored text P h pos (fault_of t.kind) t.place M k
    unfolding AllListed Monitored Listing NotListed step seen
    monitors-unended q k =
        faulted (faults text at t sees) (λ c ns l k.
        let (ms, w, on) = well all z c ns l k in
        on ∙ on_step text at t sees ns (text_end ms) _ (end-kind ns ms (seen text t) _ t.kind q ∙ not-here text at t sees))

    pub monitors-read : t.kind ≡ kind.End → Monitored text P h pos f at M n
    unfolding AllListed Monitored Listing step seen
    monitors-read q =
        fine z (λ c ns l k.
        let (ms, w, on) = well all z c ns l k in
        (ms, w, on ∙ on_step text at t sees ns (text_end ms) (finished (program_of ns ms)) (rw q)))
