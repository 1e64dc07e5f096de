-- What a function holds that takes a reader by value and calls another function on its slice and its number; for the walks of `peek` and `after`.
-- The struct is Copy: what it owns is had twice, one copy is kept whole for the exit, and of the other what text owns goes to the callee, beside the lifetime's token, which comes back.
-- So a callee that meets its contract meets one that is stated of the reader, `OnReader`.
-- Assumes nothing.
use mathlib.Core.Path.{◌≡◌, refl}
use Prim.Native.Nat.{ℕ, ◌<◌, ◌^◌}
use mathlib.Core.List.{List, [], ◌∷◌}
use lib.ListN.{length}
use seplogic.Ra.Ura.{Ura}
use mir.Syntax.{named, w64}
use mir.Val.{Val, vint}
use base.Logic.{ent, sep, emp, via, mono_l, snd∗, ex_e}
use base.Fml.{Lft, Share, Fml, ftrue, flft}
use prog.Routine.{Callee as Symbol}
use prog.Wp.{Calls}
use types.Logic.{Logic, sem}
use contract.Lifetimes.{Lfts}
use contract.Monad.{fact}
use types.Kit.{Item, ‵, raw, ◌⊛◌, some, given, later, mean, ⋆, ◌$◌, ◌∵◌, !, qed, move, drop, use1, use2, split, join, pick, learn, fsplit, fjoin, show, check, frame, await, updating, now as at_once, done}
use sound.WpLaws.{FmC}
use denote.Exit.{yes}
use denote.RattleType.{RattleType, Valss, owns}
use denote.Laws.{Is, shows}
use denote.Plain.{uint_Makes}
use denote.Builtin.{u8, usize, SliceRef}
use denote.Signature.{plain, named_lft}
use denote.Slice.{slice_val, ShrSlice}
use denote.Steps.{owned, peeks, heard, nothing}
use denote.Struct.Declared.{Declared}
use denote.Struct.Laws as LL
use denote.Struct.Rest.{all_own, field_own, rest, own_open, own_out}
use denote.Struct.Values.{Values}
use denote.Triple.Clauses.{Ended, Clauses, closing, ensured, lasts}
use denote.Triple.Spec.{triple_of}
use denote.Triple.Statement.{Contract, Triple}
use Rattle.reader_walk.specs.declared.Reader.{Reader}
use Rattle.reader_walk.specs.contracts.Reader as T
use Rattle.reader_walk.proofs.Reader.TheLaws as T'

-- the struct's type, over the signature's lifetimes
abbrev pub B : Lfts 1 → RattleType
B κs = T.the_row (named_lft 1 0 tt κs)

-- its machine value
abbrev pub mach : Reader → Val
mach d = T'.lowered d

module _ (κ : Lft) where
  -- the struct's type and laws
  abbrev pub D : Declared
  D = T.the_type (named_lft 1 0 tt (κ, tt))

  abbrev pub L : LL.Laws D
  L = T'.the_laws (named_lft 1 0 tt (κ, tt))

  module _ (d : Reader) where
    abbrev pub Own : Fml
    Own = (B (κ, tt)).own_val d (mach d ∷ [])

    -- its fields' values
    abbrev pub vd : Values D.parts
    vd = (d.text, (d.at, tt))

    -- what the callee is passed: the machine values of text and at
    abbrev passed : Valss (ShrSlice (named 0) κ u8 ∷ usize ∷ [])
    passed = (slice_val d.text.ref_ptr (length d.text.now) ∷ [], (vint w64 d.at ∷ [], tt))

-- a callee: a function of a slice and a place in it, which returns f of them
module _ (X : RattleType) (f : List ℕ → ℕ → X.Denot) where
  abbrev ended : Ended
  ended = record { signature = record { lifetimes = 1; outlives = []; params = SliceRef 0 tt u8 tt ∷ plain (λ _. usize) ∷ []; result = plain (λ _. X) }; kept = (yes, (yes, tt)) }

  module _ {M : Type 1} {𝓤 : Ura M} (𝓛 : Logic 𝓤) where
    open 𝓛 use {H}

    abbrev clauses : Clauses 𝓤 ended
    clauses κs a = record { ghost = Unit {0}; requires = λ g. emp 𝓤; ensures = λ g r e. fact 𝓤 (r ≡ f a.0.now a.1.0) }

    abbrev pub Callee : Contract 𝓤
    Callee = triple_of 𝓛 ended.signature (closing 𝓛 ended clauses)

    module _ (κ : Lft) (q : Share) (d : Reader) where
      abbrev found : X.Denot
      found = f d.text.now d.at

      abbrev to : Callee.Ghost
      to = (((κ, tt), (q, tt), tt, (d.text, (d.at, tt)), passed κ d), tt)

      -- what is had once it has returned u
      abbrev held : Val → X.Denot → Item 𝓤
      held u r = given (r ≡ found) (given (Is X r (u ∷ [])) (‵ (X.own_val r (u ∷ [])) ⊛ (‵ (flft κ q) ⊛ ‵ ftrue) ⊛ ‵ (Own κ d)))

      abbrev pub back : Val → Item 𝓤
      back u = later (some (held u))

      -- the callee's contract where it is called on a reader's slice and place: the reader goes in and comes back
      abbrev pub OnReader : Contract 𝓤
      OnReader = record {
        Ghost = d.at < 2 ^ 64;
        args = λ fits. Callee.args to;
        pre = λ fits. ⋆ 𝓛 ((‵ (flft κ q) ⊛ ‵ ftrue) ∷ ‵ (owns (B (κ, tt) ∷ []) (d, tt) (mach d ∷ [], tt)) ∷ []);
        post = λ fits u. mean 𝓛 (back u);
      }

      module _ where
        asked : ent 𝓤 (⋆ 𝓛 ((‵ (flft κ q) ⊛ ‵ ftrue) ∷ ‵ (owns (ShrSlice (named 0) κ u8 ∷ usize ∷ []) (d.text, (d.at, tt)) (passed κ d)) ∷ [])) (Callee.pre to)
        asked = qed 𝓛 ((‵ (flft κ q) ⊛ ‵ ftrue) ∷ ‵ (owns (ShrSlice (named 0) κ u8 ∷ usize ∷ []) (d.text, (d.at, tt)) (passed κ d)) ∷ []) ∵ join ! $ frame ! $ done !

        -- what the struct owns gives what the callee asks, and is kept
        apart : (fits : d.at < 2 ^ 64) → ent 𝓤 (OnReader.pre fits) (sep 𝓤 (Callee.pre to) (sem 𝓛 (Own κ d)))
        apart fits =
            qed 𝓛 ((‵ (flft κ q) ⊛ ‵ ftrue) ∷ ‵ (owns (B (κ, tt) ∷ []) (d, tt) (mach d ∷ [], tt)) ∷ []) ∵
            move ! (1 ∷ []) $ fsplit ! $ move ! (1 ∷ []) $ drop ! $ use1 𝓛 (‵ (Own κ d) ⊛ ‵ (Own κ d)) ((LL.copy (D κ) (T'.the_copy (named_lft 1 0 tt (κ, tt))) 𝓛).twice d (mach d ∷ [])) $ split ! $
            use1 𝓛 (given (mach d ∷ [] ≡ mach d ∷ []) (‵ (all_own (D κ).parts (L κ) (vd κ d)))) (own_open 𝓛 (D κ) (L κ) (vd κ d) (mach d)) $ learn ! (λ _.
            use1 𝓛 (‵ (field_own (D κ).parts (L κ) 0 d.text) ⊛ ‵ (rest (D κ).parts (L κ) 0 (vd κ d))) (own_out 𝓛 (D κ).parts (L κ) 0 (vd κ d)) $ split ! $
            -- [what text owns; what at owns; what the struct owns; the token]
            move ! (1 ∷ []) $ drop ! $ nothing ! $ owned ! usize (Is usize) (uint_Makes 𝓛 w64) d.at _ (refl, fits) $ fjoin ! $ move ! (1 ∷ 0 ∷ []) $ fjoin ! $
            move ! (2 ∷ 0 ∷ []) $ use2 𝓛 (raw (Callee.pre to)) asked $ frame ! $ done !)

        -- of the callee's `ensured`, the clause alone: it has no `&mut`, so what is said of last values is dropped
        said : (r : X.Denot) → ent 𝓤 (ensured 𝓛 ended clauses (κ, tt) (d.text, (d.at, tt)) tt r) (fact 𝓤 (r ≡ found))
        said r = ex_e 𝓤 _ (λ ws. snd∗ 𝓤 (sem 𝓛 (lasts ended (κ, tt) (d.text, (d.at, tt)) ws)) (fact 𝓤 (r ≡ found)))

        returned : (u : Val) → ent 𝓤 (sep 𝓤 (Callee.post to u) (sem 𝓛 (Own κ d))) (mean 𝓛 (back u))
        returned u =
            qed 𝓛 (later (some (λ (r : X.Denot). ((‵ (flft κ q) ⊛ ‵ ftrue) ⊛ ‵ (X.own_val r (u ∷ []))) ⊛ raw (ensured 𝓛 ended clauses (κ, tt) (d.text, (d.at, tt)) tt r))) ∷ ‵ (Own κ d) ∷ []) ∵
            updating ! $ await ! tt $ pick ! (λ r.
            split ! $ move ! (1 ∷ []) $ use1 𝓛 (raw (fact 𝓤 (r ≡ found))) (said r) $ heard ! (r ≡ found) (λ e. split ! $ move ! (1 ∷ []) $
            peeks ! X (Is X) (shows 𝓛 X) r (u ∷ []) (λ is. at_once ! $ show ! (λ (x : X.Denot). mean 𝓛 (held u x)) r $ check ! e $ check ! is $ done !)))

        pub on-reader : (C : Calls 𝓤 H) (k : Symbol) → FmC 𝓤 H 𝓛.laws C → Triple 𝓤 (C k) Callee → Triple 𝓤 (C k) OnReader
        on-reader C k fm known fits =
            via 𝓤 _ (apart fits) (via 𝓤 _ (mono_l 𝓤 (sem 𝓛 (Own κ d)) (known to)) (fm k (Callee.args to) (Callee.post to) (OnReader.post fits) (sem 𝓛 (Own κ d)) returned))
