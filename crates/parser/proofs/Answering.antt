-- What an answer of the code tells, and the names of tokens. Assumes nothing.
use Prim.Native.Nat.{ℕ, ◌≤◌, ◌<◌}
use mathlib.Core.Path.{◌≡◌, refl, ap}
use mathlib.Core.Bool.{Bool, true, ◌&&◌}
use mathlib.Core.List.{List, [], ◌∷◌}
use native.Mathlib.Omega.{arith}
use borrow.Author.Tests.{eqb-true, le-leb, lt-leb}
use Rattle.rules.specs.Bytes.{pick, all}
use Rattle.std.specs.List.{list_all}
use Rattle.rules.specs.Tokens.{Token, no_name, is_a, text_kind, pooled, shown_name}
use Rattle.rules.specs.Numbers as Rules
use Rattle.rules.specs.Numbers.{refusal_number, refusal_detail, no_detail}
use Rattle.answers.specs.declared.Name.{Name}
use Rattle.answers.specs.declared.Refusal.TheVariants as Told
use Rattle.answers.specs.Tells.{Names}
use Rattle.answers.specs.Refusals as Ours
use Rattle.answers.specs.Refusals.{Refuses}
use Rattle.answers.proofs.Telling.{refuses, no-names}

-- the name that a token shows, by its kind
module _ (t : Token) (k : ℕ) (is-kind : k ≡ t.kind) (r : Name) where
  pub shows : k ≤ 2 → Names r t → Names r (shown_name t)
  unfolding shown_name pooled pick
  shows h m = rw (le-leb t.kind 2 (omega arith)) m

  pub shows-none : 2 < k → r ≡ Ours.no_name → Names r (shown_name t)
  unfolding shown_name pooled pick
  shows-none h q = rw (lt-leb t.kind 2 (omega arith), q) no-names

-- a Text shows itself
pub text-shows : (t : Token) → is_a text_kind t ≡ true → shown_name t ≡ t
unfolding shown_name pooled is_a pick
text-shows t e = rw (eqb-true t.kind 1 e)

-- the rules' word for a test of all, in std's
pub all-list : (p : ℕ → Bool) (bs : List ℕ) → all p bs ≡ list_all p bs
unfolding all
all-list p [] = refl
all-list p (b ∷ bs) = ap (λ (x : Bool). p b && x) (all-list p bs)

-- 7 and 8
module _ (kind : ℕ) (k : Name) (t : Token) (e : kind ≡ t.kind) (N : Names k (shown_name t)) where
  pub refuses-start : Refuses (Told.UnexpectedAtStart kind k) (Rules.unexpected_at_start t)
  unfolding refusal_number refusal_detail
  refuses-start = rw e (refuses (Told.UnexpectedAtStart t.kind k) (Rules.unexpected_at_start t) t.kind k Ours.no_name (shown_name t) no_name refl refl refl N no-names)

  pub refuses-after : Refuses (Told.UnexpectedAfterKey kind k) (Rules.unexpected_after_key t)
  unfolding refusal_number refusal_detail
  refuses-after = rw e (refuses (Told.UnexpectedAfterKey t.kind k) (Rules.unexpected_after_key t) t.kind k Ours.no_name (shown_name t) no_name refl refl refl N no-names)

pub refuses-ended : Refuses Told.EndedAfterKey Rules.ended_after_key
unfolding refusal_number refusal_detail no_detail
refuses-ended = refuses Told.EndedAfterKey Rules.ended_after_key 0 Ours.no_name Ours.no_name no_name no_name refl refl refl no-names no-names

-- 13
pub kept-refuses : (k : Name) (t : Token) → Names k t → Refuses (Told.DuplicateField k) (Rules.duplicate_field t)
unfolding refusal_number refusal_detail
kept-refuses k t N = refuses (Told.DuplicateField k) (Rules.duplicate_field t) 0 k Ours.no_name t no_name refl refl refl N no-names
