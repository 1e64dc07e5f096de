-- Any two outcomes that the listing's contract allows are equal. Assumes nothing.
use Prim.Native.Nat.{ℕ}
use mathlib.Core.Path.{◌≡◌, refl, ap, sym, ◌∙◌}
use mathlib.Core.Bool.{true, false}
use mathlib.Core.List.{List, [], ◌∷◌}
use lib.Dec.{eqb}
use Rattle.rules.specs.Tokens.{Token}
use Rattle.rules.specs.Numbers as Rules
use Rattle.rules.specs.Listing.{Listed}
use Rattle.answers.specs.declared.Number.{Number}
use Rattle.answers.specs.declared.Number.TheVariants.{Accepted, TooLong, WorkspaceShort, PoolShort, NotUtf8, MissingCloseVariable, InvalidVariableChar, UnexpectedAtStart, UnexpectedAfterKey, EndedAfterKey, InvalidVariableName, DuplicateVariable, UnknownField, DuplicateField, UnterminatedQuote, UndefinedVariable, ContentTooLarge, OutputShort, NotRecords, DetailShort}
use Rattle.answers.specs.declared.Name.{Name}
use Rattle.answers.specs.declared.Detail.{Detail}
use Rattle.answers.specs.declared.Answer.{Answer}
use Rattle.answers.specs.Tells.{Tells, Names, number_of}
use Rattle.listing.proofs.Answers.{Says}

-- the first of the numbers' cases that has the number
find : List Number → ℕ → Number
find [] n = DetailShort
find (x ∷ xs) n = elim (eqb n (number_of x)) [ true ↦ x | false ↦ find xs n ]

numbered : ℕ → Number
numbered n = find (Accepted ∷ TooLong ∷ WorkspaceShort ∷ PoolShort ∷ NotUtf8 ∷ MissingCloseVariable ∷ InvalidVariableChar ∷ UnexpectedAtStart ∷ UnexpectedAfterKey ∷ EndedAfterKey ∷ InvalidVariableName ∷ DuplicateVariable ∷ UnknownField ∷ DuplicateField ∷ UnterminatedQuote ∷ UndefinedVariable ∷ ContentTooLarge ∷ OutputShort ∷ NotRecords ∷ DetailShort ∷ []) n

numbered_is : (x : Number) → numbered (number_of x) ≡ x
unfolding numbered find
numbered_is Accepted = refl
numbered_is TooLong = refl
numbered_is WorkspaceShort = refl
numbered_is PoolShort = refl
numbered_is NotUtf8 = refl
numbered_is MissingCloseVariable = refl
numbered_is InvalidVariableChar = refl
numbered_is UnexpectedAtStart = refl
numbered_is UnexpectedAfterKey = refl
numbered_is EndedAfterKey = refl
numbered_is InvalidVariableName = refl
numbered_is DuplicateVariable = refl
numbered_is UnknownField = refl
numbered_is DuplicateField = refl
numbered_is UnterminatedQuote = refl
numbered_is UndefinedVariable = refl
numbered_is ContentTooLarge = refl
numbered_is OutputShort = refl
numbered_is NotRecords = refl
numbered_is DetailShort = refl

-- a number tells its case
number-one : (x y : Number) → number_of x ≡ number_of y → x ≡ y
number-one x y e = sym (numbered_is x) ∙ ap numbered e ∙ numbered_is y

name-one : (m n : Name) (t : Token) → Names m t → Names n t → m ≡ n
name-one m n t p q =
    let a : m.place ≡ n.place = p.is_place ∙ sym q.is_place in
    let b : m.length ≡ n.length = p.is_length ∙ sym q.is_length in
    ap (λ (x : ℕ). record { place = x; length = m.length }) a ∙ ap (λ (x : ℕ). record { place = n.place; length = x }) b

detail-one : (d e : Detail) → d.value ≡ e.value → d.first ≡ e.first → d.second ≡ e.second → d ≡ e
detail-one d e v f s =
    ap (λ (x : ℕ). record { value = x; first = d.first; second = d.second }) v ∙ ap (λ (x : Name). record { value = e.value; first = x; second = d.second }) f
    ∙ ap (λ (x : Name). record { value = e.value; first = e.first; second = x }) s

-- two answers that tell the same are equal
pub answer-one : (a c : Answer) (b : Rules.Answer) → Tells a b → Tells c b → a ≡ c
answer-one a c b p q =
    let n : a.number ≡ c.number = number-one a.number c.number (p.is_number ∙ sym q.is_number) in
    let f : a.detail.first ≡ c.detail.first = name-one a.detail.first c.detail.first (Rules.detail b).first p.is_first q.is_first in
    let s : a.detail.second ≡ c.detail.second = name-one a.detail.second c.detail.second (Rules.detail b).second p.is_second q.is_second in
    ap (λ (x : Number). record { number = x; detail = a.detail }) n
    ∙ ap (λ (x : Detail). record { number = c.number; detail = x }) (detail-one a.detail c.detail (p.is_value ∙ sym q.is_value) f s)

-- the answer, and what is left in the output
pub outcome-one : (a c : Answer) (after then : List ℕ) (l : Listed) → Says a after l → Says c then l → (a ≡ c) × (after ≡ then)
outcome-one a c after then l p q = (answer-one a c l.answer p.answer q.answer, p.written ∙ sym q.written)
