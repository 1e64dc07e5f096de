-- Any two outcomes that the contract of `lex` allows are equal; and what the caller has of it: tokens that are read back. Assumes nothing.
use Prim.Native.Nat.{ℕ, ◌*◌, ◌≤◌}
use mathlib.Core.Path.{◌≡◌, refl, ap, ap₂, sym, ◌∙◌, subst}
use mathlib.Core.List.{List}
use native.Mathlib.Omega.{arith}
use lib.ListN.{length}
use Rattle.rules.specs.Bytes.{overwrite}
use Rattle.rules.specs.Tokens.{Token}
use Rattle.rules.specs.Numbers as N
use Rattle.rules.specs.Lexing.{pool_of}
use Rattle.rules.proofs.TableLaws.{ok-one, refused-ok}
use Rattle.rules.proofs.LexingLaws.{tokens-room}
use Rattle.scan.proofs.Stores.{length-overwrite}
use Rattle.tokens.specs.Entries.{entries, decode}
use Rattle.tokens.proofs.TokenLaws.{length-entries}
use Rattle.tokens.proofs.ReadBack.{read_back}
use Rattle.lexer.specs.Lexes.{Room, Holds, Untouched, Lexes, error_of}
use Rattle.lexer.specs.declared.LexError.{LexError}
use Rattle.lexer.specs.declared.LexError.TheVariants.{MissingCloseVariable, InvalidVariableChar}
use Rattle.std.specs.Prelude.{Result, Ok, Err}
use Rattle.lexer.specs.declared.LexRefusal.{LexRefusal}
use Rattle.lexer.specs.declared.Filled.{Filled}

error-one : (a b : LexError) → error_of a ≡ error_of b → a ≡ b
error-one MissingCloseVariable MissingCloseVariable e = refl
error-one MissingCloseVariable (InvalidVariableChar d) e = let z : ◌≡◌ {A = ℕ} 0 1 = cc in absurd (omega arith)
error-one (InvalidVariableChar c) MissingCloseVariable e = let z : ◌≡◌ {A = ℕ} 0 1 = cc in absurd (omega arith)
error-one (InvalidVariableChar c) (InvalidVariableChar d) e = let q : c ≡ d = cc in ap InvalidVariableChar q

pub lexes-one : (text ws pool ws₁ ws₂ pool₁ pool₂ : List ℕ) (r₁ r₂ : Result Filled LexRefusal) → Lexes text ws ws₁ pool pool₁ r₁ → Lexes text ws ws₂ pool pool₂ r₂
    → (r₁ ≡ r₂) × (ws₁ ≡ ws₂) × (pool₁ ≡ pool₂)
lexes-one text ws pool ws₁ ws₂ pool₁ pool₂ (Ok f₁) (Ok f₂) h k =
    let e : h.ts ≡ k.ts = ok-one (sym h.is_tokens ∙ k.is_tokens) in (
      ap₂ {C = Result Filled LexRefusal} (λ (c u : ℕ). Ok (record { count = c; used = u })) (h.is_count ∙ ap length e ∙ sym k.is_count) (h.is_used ∙ ap (λ (ts : List Token). length (pool_of ts)) e ∙ sym k.is_used),
      h.is_ws ∙ ap (λ (ts : List Token). overwrite (entries ts) ws) e ∙ sym k.is_ws,
      h.is_pool ∙ ap (λ (ts : List Token). overwrite (pool_of ts) pool) e ∙ sym k.is_pool,
    )
lexes-one text ws pool ws₁ ws₂ pool₁ pool₂ (Ok f₁) (Err e₂) h k = absurd (refused-ok (sym k.is_refused ∙ h.is_tokens))
lexes-one text ws pool ws₁ ws₂ pool₁ pool₂ (Err e₁) (Ok f₂) h k = absurd (refused-ok (sym h.is_refused ∙ k.is_tokens))
lexes-one text ws pool ws₁ ws₂ pool₁ pool₂ (Err e₁) (Err e₂) h k =
    let q : ◌≡◌ {A = N.Result (List Token)} (N.refused (N.lex_error (error_of e₁.error) e₁.at)) (N.refused (N.lex_error (error_of e₂.error) e₂.at)) = sym h.is_refused ∙ k.is_refused in
    let x : error_of e₁.error ≡ error_of e₂.error = cc in
    let y : e₁.at ≡ e₂.at = cc in
    (ap₂ {C = Result Filled LexRefusal} (λ (e : LexError) (p : ℕ). Err (record { error = e; at = p })) (error-one e₁.error e₂.error x) y, h.same_ws ∙ sym k.same_ws, h.same_pool ∙ sym k.same_pool)

-- after a text is lexed, workspace and pool are read as its tokens
pub lexed-back : (text ws ws' pool pool' : List ℕ) (count used : ℕ) (h : Holds text ws ws' pool pool' count used) → decode count ws' pool' ≡ h.ts
lexed-back text ws ws' pool pool' count used h = rw (h.is_count, h.is_ws, h.is_pool) (read_back text ws pool h.ts h.is_tokens)

-- the tokens fit: so many as the text has bytes at most, and the workspace is as long as it was
module _ (text ws ws' pool pool' : List ℕ) (count used : ℕ) (r : Room text ws pool) (h : Holds text ws ws' pool pool' count used) where
  pub count_fits : count ≤ length text
  count_fits = omega (arith, h.is_count, tokens-room text h.ts h.is_tokens)

  pub long_ws : length ws' ≡ length ws
  long_ws = ap length h.is_ws ∙ length-overwrite (entries h.ts) ws (omega (arith, count_fits, length-entries h.ts, h.is_count))

  pub entries_fit : 4 * count ≤ length ws'
  entries_fit = omega (arith, count_fits, long_ws)

-- by the answer that a caller matches on
module _ (text ws ws' pool pool' : List ℕ) (r : Result Filled LexRefusal) (h : Lexes text ws ws' pool pool' r) where
  pub when-tokens : (f : Filled) → r ≡ Ok f → Holds text ws ws' pool pool' f.count f.used
  when-tokens f e = subst (Lexes text ws ws' pool pool') e h

  pub when-refused : (e : LexRefusal) → r ≡ Err e → Untouched text ws ws' pool pool' (error_of e.error) e.at
  when-refused e q = subst (Lexes text ws ws' pool pool') q h

  pub when-entries-fit : (f : Filled) → r ≡ Ok f → Room text ws pool → 4 * f.count ≤ length ws'
  when-entries-fit f e m = entries_fit text ws ws' pool pool' f.count f.used m (when-tokens f e)
