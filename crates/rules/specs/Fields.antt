-- Document 01, "Variables, then fields": fields by number. Assumes nothing.
use Rattle.std.specs.Prelude.{ℕ, zero, suc, List, [], ◌∷◌, map}
use Rattle.std.proofs.Math.Option.{none, some}
use Rattle.rules.specs.Numbers.{WhileResolving, in_field, undefined_variable, content_too_large, Result, refused, ok, ◌>>=◌}
use Rattle.rules.specs.Lines.{Part, Assignment, File, Template, string, list, field_at}
use Rattle.rules.specs.Variables.{Found, Expansion, large, missing, value, expand, look_up}

unfoldable pub expanded : WhileResolving → Expansion → Result (List ℕ)
expanded w large = refused (content_too_large w)
expanded w (missing n) = refused (undefined_variable n w)
expanded w (value v) = ok v

-- a field's value, resolved
pub data Content : Type 0 where
  single : List ℕ → Content
  many : List (List ℕ) → Content

-- with these variables and their values
module _ (vs : List Assignment) (vals : Found) where
  unfoldable pub resolve_parts : WhileResolving → List Part → Result (List ℕ)
  resolve_parts w ps = expanded w (expand vals [] (map (look_up vs) ps))

  -- arguments in order, first failing part first
  unfoldable pub resolve_arguments : WhileResolving → List (List Part) → Result (List (List ℕ))
  resolve_arguments w [] = ok []
  resolve_arguments w (ps ∷ rest) = resolve_parts w ps >>= λ v. resolve_arguments w rest >>= λ more. ok (v ∷ more)

  unfoldable pub resolve_template : WhileResolving → Template → Result Content
  resolve_template w (string ps) = resolve_parts w ps >>= λ v. ok (single v)
  resolve_template w (list l) = resolve_arguments w l >>= λ more. ok (many more)

-- a field that is present
pub record Present : Type 0 where
  pub number : ℕ
  pub content : Content

-- the fields present, by number: k of them from the f-th on
unfoldable pub fields_from : ℕ → ℕ → File → Found → Result (List Present)
fields_from zero f file vals = ok []
fields_from (suc k) f file vals = elim (field_at f file.fields) [
  | none ↦ fields_from k (suc f) file vals
  | some g ↦ (resolve_template file.variables vals (in_field f g.key) g.value >>= λ c. fields_from k (suc f) file vals >>= λ more. ok (record { number = f; content = c } ∷ more))
]

unfoldable pub resolve_fields : File → Found → Result (List Present)
resolve_fields file vals = fields_from 10 1 file vals
