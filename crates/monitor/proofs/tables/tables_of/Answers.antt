-- `monitor::tables::tables_of` meets its contract.
-- Assumes nothing.
use mathlib.Core.Path.{◌∙◌, ap, ap₂}
use mathlib.Core.List.{List, [], ◌∷◌}
use Prim.Native.Nat.{ℕ}
use lib.ListN.{get_or, set}
use lib.Seq.{sets}
use Rattle.words.specs.Words.{quad}
use Rattle.monitor.specs.Calls.{letters_by, writers_of, threaded_of}
use Rattle.monitor.proofs.tables.tables_of.Goals as goal

pub returns : goal.returns
returns c =
    let v = c.args.watch.now in
    let t = c.threads_of-threads in
    let l = c.place-4.ensures
    ∙ ap (λ (l : List ℕ). sets l 768 t.result)
    (c.place-3.ensures
    ∙ ap (λ (l : List ℕ). sets l 512 v.held)
    (c.place-2.ensures ∙ ap (λ (l : List ℕ). sets l 256 v.want) c.place.ensures)) in
    let u = c.unthreaded_of-unthreaded in
    let n = c.quad.ensures
    ∙ ap₂ (λ (i j : ℕ). quad (get_or t.result 0 0) i j u.result) c.writers_of-writers.ensures c.threaded_of-threaded.ensures
    ∙ ap (λ (k : ℕ). quad (get_or t.result 0 0) (writers_of v.links 256) (threaded_of t.result 256) k) u.ensures in
    ap₂ (λ (l : List ℕ) (n : ℕ). v.table ∷ v.links ∷ v.numbers ∷ set l 768 n ∷ []) l n
    ∙ ap (λ (l : List ℕ). v.table ∷ v.links ∷ v.numbers ∷ letters_by v l ∷ []) t.ensures
