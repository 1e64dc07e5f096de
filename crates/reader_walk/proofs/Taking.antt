-- A function that takes a reader by value: where a walk of its MIR ends, and that it then meets its contract; for the walks of `at`, `peek` and `after`.
-- The reader is owned at exit as it was passed.
-- Assumes nothing.
use mathlib.Core.Path.{refl}
use mathlib.Core.List.{[], ◌∷◌}
use lib.Dec.{T as Holds}
use seplogic.Ra.Ura.{Ura}
use mir.Syntax.{Fn, named}
use mir.Val.{Val, WT, has_ty}
use base.Logic.{SProp, ent, via, fst∗}
use base.Fml.{Lft, Share}
use prog.Model.{Model}
use prog.Routine.{Callee, Env}
use prog.Wp.{WpFn, Tables, Closed}
use types.Logic.{Logic}
use contract.Lifetimes.{Lfts}
use contract.Monad.{Fun}
use contract.Running.{Running, tables, tables_of}
use sound.Laws.{of_model}
use sound.WpLaws.{FmC, fm_of, WpFn-mono}
use denote.Exit.{yes}
use denote.RattleType.{RattleType}
use denote.Signature.{plain}
use denote.Struct.Laws as LL
use denote.Triple.Clauses.{Ended, Clauses, closing}
use denote.Triple.Entry.{on_entry}
use denote.Triple.Spec.{Meets, triple_of}
use denote.Triple.Table.{entered}
use denote.Triple.Walked.{Stays, stay_none, walk_of, Ending, ends_at, Goes-none, Walks, walked, walk_Meets}
use Rattle.reader_walk.specs.declared.Reader.{Reader}
use Rattle.reader_walk.proofs.Holding.{B, D, L, mach}
use Rattle.reader_walk.proofs.Reader.TheLaws as T'

-- its result has the type Y
module _ (Y : Lfts 1 → RattleType) where
  abbrev taking : Ended
  taking = record { signature = record { lifetimes = 1; outlives = []; params = plain B ∷ []; result = plain Y }; kept = (yes, tt) }

  abbrev stayed : Stays taking.signature.params taking.kept
  stayed = (stay_none B yes, tt)

  module _ {M : Type 1} {𝓤 : Ura M} (𝓛 : Logic 𝓤) (c : Clauses 𝓤 taking) where
    -- where the walk ends
    open 𝓛 use {H}

    abbrev pub Post : (κ : Lft) → Share → (d : Reader) → (c (κ, tt) (d, tt)).ghost → Val → SProp 𝓤
    Post κ q d g = (walk_of 𝓛 taking stayed c).post (((κ, tt), (q, tt), tt, (d, tt), (mach d ∷ [], tt)), g)

    pub ends : (κ : Lft) (q : Share) (d : Reader) (g : (c (κ, tt) (d, tt)).ghost) (v : Val) (r : (Y (κ, tt)).Denot)
        → ent 𝓤 (Ending 𝓛 taking stayed c (((κ, tt), (q, tt), tt, (d, tt), (mach d ∷ [], tt)), g) v r (tt, tt)) (Post κ q d g v)
    ends κ q d g v r = ends_at 𝓛 taking stayed c (((κ, tt), (q, tt), tt, (d, tt), (mach d ∷ [], tt)), g) v r (tt, tt) (tt, tt)

    -- what a walk shows
    abbrev Walk : Fun 𝓤 → Type 1
    Walk run = (κ : Lft) (q : Share) (d : Reader) (g : (c (κ, tt) (d, tt)).ghost) → Holds (has_ty (T'.mir (named 0)) (mach d)) × WT (mach d)
        → ent 𝓤 (on_entry 𝓛 taking.signature (κ, tt) (q, tt) (d, tt) (mach d ∷ [], tt)) (run (mach d ∷ []) (Post κ q d g))

    module _ (𝓣 : Tables 𝓤 H) (e : Fn) (walk : Walk (WpFn 𝓤 H 𝓣.C 𝓣.Λ e)) where
      walks : Walks 𝓛 taking stayed (WpFn 𝓤 H 𝓣.C 𝓣.Λ e) c
      walks = walked 𝓛 taking stayed c (WpFn 𝓤 H 𝓣.C 𝓣.Λ e) (λ κs. (LL.vals (D κs.0) (L κs.0), tt)) (λ κs. (LL.tells (D κs.0) (L κs.0), tt))
          (λ κs qs bounds a g are. via 𝓤 _ (fst∗ 𝓤 _ ((c κs a).requires g)) (walk κs.0 qs.0 a.0 g ((LL.lawful (D κs.0) (L κs.0) 𝓛).typed a.0 _ are.0).0))

      meets : Meets 𝓛 taking.signature (WpFn 𝓤 H 𝓣.C 𝓣.Λ e) (closing 𝓛 taking c)
      meets = walk_Meets 𝓛 taking stayed (Goes-none 𝓛 1 B yes (λ κs x f. refl), tt) c (WpFn 𝓤 H 𝓣.C 𝓣.Λ e) (WpFn-mono 𝓤 H 𝓛.laws 𝓣 e) walks

  -- the function's routine, where its calls mean γ
  pub meets-by : {M : Type 1} {𝓤 : Ura M} (𝓛 : Logic 𝓤) (𝓜 : Model 𝓤 𝓛.H) (𝓡 : Running 𝓤 𝓛.H 𝓜) (c : Clauses 𝓤 taking) (γ : Env) (k : Callee) (e : Fn)
      → Closed 𝓤 𝓛.H (tables 𝓤 𝓛.H 𝓜 𝓡 γ).C (tables 𝓤 𝓛.H 𝓜 𝓡 γ).Λ k e
      → (FmC 𝓤 𝓛.H (of_model 𝓤 𝓛.H 𝓜) (tables 𝓤 𝓛.H 𝓜 𝓡 γ).C → Walk 𝓛 c (WpFn 𝓤 𝓛.H (tables 𝓤 𝓛.H 𝓜 𝓡 γ).C (tables 𝓤 𝓛.H 𝓜 𝓡 γ).Λ e))
      → Meets 𝓛 taking.signature (𝓡.run (γ k)) (closing 𝓛 taking c)
  unfolding tables_of
  meets-by {𝓤 = 𝓤} 𝓛 𝓜 𝓡 c γ k e closed walk =
      let 𝓣 : Tables 𝓤 𝓛.H = tables_of 𝓤 𝓛.H 𝓜 (tables 𝓤 𝓛.H 𝓜 𝓡 γ) in
      entered 𝓤 𝓛.H (triple_of 𝓛 taking.signature (closing 𝓛 taking c)) (tables 𝓤 𝓛.H 𝓜 𝓡 γ).C (tables 𝓤 𝓛.H 𝓜 𝓡 γ).Λ k e closed
      (meets 𝓛 c 𝓣 e (walk (fm_of 𝓤 𝓛.H (of_model 𝓤 𝓛.H 𝓜) 𝓣)))
