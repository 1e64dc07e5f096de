-- Demand 3, by names and with no word of passes: "Variables resolve exactly when the assigned names can be numbered so that each reference goes to an
-- assigned name with a smaller number; else the refusal names the smallest assigned name without a value, with its first reference that has none; before
-- both goes "too large", exactly when some name's value up to its first reference without a value is over 67,108,864 bytes." Assumes nothing.
use Rattle.std.specs.Prelude.{ℕ, zero, suc, ◌<◌, ◌≡◌, ◌↔◌, true, List, [], ◌∷◌, ◌++◌, length}
use Rattle.std.proofs.Math.Option.{Option, none, some}
use Rattle.rules.specs.Bytes.{before}
use Rattle.rules.specs.Tokens.{Token}
use Rattle.rules.specs.Numbers.{in_variable, undefined_variable, content_too_large, Result, refused, ok, details, number, detail}
use Rattle.rules.specs.Lines.{Part, Assignment}
use Rattle.rules.specs.Variables.{limit, Found, found_at}
use Rattle.rules.specs.Reader.{Outcome}

-- a is the i-th assignment, in byte order of the names
pub data At : List Assignment → ℕ → Assignment → Type 0 where
  here : {a : Assignment} {vs : List Assignment} → At (a ∷ vs) zero a
  there : {a b : Assignment} {vs : List Assignment} {i : ℕ} → At vs i a → At (b ∷ vs) (suc i) a

-- `key` is assigned, by a
pub record Assigned (vs : List Assignment) (key : List ℕ) (a : Assignment) : Type 0 where
  pub rank : ℕ
  pub at : At vs rank a
  pub named : a.key.text ≡ key

-- the parts joined, references replaced by their values
pub data Joined (vs : List Assignment) : List Part → List ℕ → Type 0 where
  nil : Joined vs [] []
  text : {s v : List ℕ} {ps : List Part} → Joined vs ps v → Joined vs (Part.text s ∷ ps) (s ++ v)
  reference : {n : Token} {a : Assignment} {u v : List ℕ} {ps : List Part} → Assigned vs n.text a → Joined vs a.value u → Joined vs ps v
      → Joined vs (Part.reference n ∷ ps) (u ++ v)

-- v is the value of `key`
abbrev pub Value : List Assignment → List ℕ → List ℕ → Type 0
Value vs key v = (a : Assignment) × Assigned vs key a × Joined vs a.value v

abbrev pub HasValue : List Assignment → List ℕ → Type 0
HasValue vs key = (v : List ℕ) × Value vs key v

-- the parts have the reference n
pub data Refers : List Part → Token → Type 0 where
  first : {n : Token} {ps : List Part} → Refers (Part.reference n ∷ ps) n
  later : {p : Part} {n : Token} {ps : List Part} → Refers ps n → Refers (p ∷ ps) n

-- the references in the parts, those in their values, and so on, lead to `key`
pub data Leads (vs : List Assignment) : List Part → List ℕ → Type 0 where
  to : {ps : List Part} {n : Token} → Refers ps n → Leads vs ps n.text
  through : {ps : List Part} {n : Token} {a : Assignment} {key : List ℕ} → Refers ps n → Assigned vs n.text a → Leads vs a.value key → Leads vs ps key

-- each reference in an assigned name's value is to an assigned name with a smaller number
abbrev pub Numbered : List Assignment → (List ℕ → ℕ) → Type 0
Numbered vs num = (key : List ℕ) (a : Assignment) → Assigned vs key a → (n : Token) → Refers a.value n
    → ((b : Assignment) × Assigned vs n.text b) × (num n.text < num key)

-- v is what the parts give up to the first reference without a value, and e is that reference (none, where all have values)
pub data Upto (vs : List Assignment) : List Part → List ℕ → Option Token → Type 0 where
  whole : Upto vs [] [] none
  text : {s v : List ℕ} {ps : List Part} {e : Option Token} → Upto vs ps v e → Upto vs (Part.text s ∷ ps) (s ++ v) e
  reference : {n : Token} {u v : List ℕ} {ps : List Part} {e : Option Token} → Value vs n.text u → Upto vs ps v e → Upto vs (Part.reference n ∷ ps) (u ++ v) e
  stop : {n : Token} {ps : List Part} → (HasValue vs n.text → ⊥) → Upto vs (Part.reference n ∷ ps) [] (some n)

-- some assigned name's value, taken up to its first reference without a value, is too large
pub record TooLarge (vs : List Assignment) : Type 0 where
  pub key : List ℕ
  pub by : Assignment
  pub assigned : Assigned vs key by
  pub prefix : List ℕ
  pub end : Option Token
  pub upto : Upto vs by.value prefix end
  pub large : limit < length prefix

-- a assigns the smallest name that has no value, and n is the first reference in it that has none
pub record Lacks (vs : List Assignment) (a : Assignment) (n : Token) : Type 0 where
  pub assigned : Assigned vs a.key.text a
  pub without : HasValue vs a.key.text → ⊥
  pub smallest : (key : List ℕ) (b : Assignment) → Assigned vs key b → before key a.key.text ≡ true → HasValue vs key
  pub prefix : List ℕ
  pub first : Upto vs a.value prefix (some n)

-- Demand 3, of the answer r that the variables vs get
pub record Demand3 (vs : List Assignment) (r : Result Found) : Type 0 where
  pub resolves : ((vals : Found) × (r ≡ ok vals)) ↔ ((TooLarge vs → ⊥) × ((num : List ℕ → ℕ) × Numbered vs num))
  pub values : (vals : Found) → r ≡ ok vals → {key : List ℕ} {a : Assignment} (x : Assigned vs key a) → (v : List ℕ) × (found_at vals x.rank ≡ some v) × Value vs key v
  pub cycles : {key : List ℕ} {a : Assignment} → Assigned vs key a → Leads vs a.value key → HasValue vs key → ⊥
  pub leading : {key to : List ℕ} {a : Assignment} → Assigned vs key a → Leads vs a.value to → HasValue vs key → HasValue vs to
  pub too_large : ((k : Token) × (r ≡ refused (content_too_large (in_variable k)))) ↔ TooLarge vs
  pub lacking : (n k : Token) → (r ≡ refused (undefined_variable n (in_variable k))) ↔ ((TooLarge vs → ⊥) × ((a : Assignment) × (a.key ≡ k) × Lacks vs a n))

-- 15 or 16 for a variable: the detail's number is 0
abbrev pub ForVariable : ℕ → Outcome → Type 0
ForVariable n o = (number o.answer ≡ n) × ((detail o.answer).value ≡ 0)

-- Demand 3, of the outcome o of a whole call, where the lines of the text assign the variables vs: the three ways it can go
pub record Demand3OfCall (vs : List Assignment) (o : Outcome) : Type 0 where
  pub too_large : ForVariable 16 o ↔ TooLarge vs
  pub lacking : (n k : Token) → ((number o.answer ≡ 15) × (detail o.answer ≡ details 0 n k)) ↔ ((TooLarge vs → ⊥) × ((a : Assignment) × (a.key ≡ k) × Lacks vs a n))
  pub resolves : ((ForVariable 15 o → ⊥) × (ForVariable 16 o → ⊥)) ↔ ((TooLarge vs → ⊥) × ((num : List ℕ → ℕ) × Numbered vs num))
