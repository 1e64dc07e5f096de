-- What the contracts of the two passes cite. No public contract rests on it. Assumes nothing.
use Rattle.std.specs.Prelude.{ℕ, ◌+◌, ◌-◌, ◌*◌, ◌≤◌, ◌≡◌, Result, Ok, Err, List, [], ◌∷◌, length, take, drop, get_or, eqb, ltb}
use Rattle.rules.specs.Bytes.{pick}
use Rattle.rules.specs.Tokens.{Token, token, text_kind, variable_kind}
use Rattle.rules.specs.Numbers.{LexError, ok, refused, lex_error}
use Rattle.rules.specs.Lexing.{bad, tokens}
use Rattle.lexer.specs.Lexes.{Room, error_of}
use Rattle.scan.specs.Stores.{puts}
use Rattle.lexer.specs.Pieces.{lexeme_at, kind_of, Reads, Refuses}
use Rattle.lexer.specs.declared.LexRefusal.{LexRefusal}
use Rattle.tokens.specs.declared.TokenKind.{TokenKind}
use Rattle.lexer.specs.declared.lexeme.Piece.{Piece}
use Rattle.lexer.specs.declared.lexeme.BadReference.{BadReference}

-- the text isn't refused
pub record Accepted (text : List ℕ) : Type 0 where
  pub ts : List Token
  pub is_tokens : tokens text ≡ ok ts

-- the pass that looks for a refusal, by its answer
abbrev pub Judges : List ℕ → Result Unit LexRefusal → Type 0
Judges text (Ok _) = Accepted text
Judges text (Err r) = tokens text ≡ refused (lex_error (error_of r.error) r.at)

-- the bytes that a piece of this kind gives to the pool, if it is Text
unfoldable pub kept : List ℕ → ℕ → ℕ → ℕ → List ℕ
kept text kind from len = pick (eqb kind text_kind) (take len (drop from text)) []

-- room from place `used` of the pool on for all that is left of the text at place i
pub record KeepRoom (text pool : List ℕ) (i used : ℕ) : Type 0 where
  pub here : i ≤ length text
  pub fits : used + (length text - i) ≤ length pool

-- what keeping a piece answers: what is read, and its bytes in the pool if it is Text; or a reference that can't be lexed, and the pool as it was
abbrev pub Keeps : List ℕ → ℕ → ℕ → List ℕ → List ℕ → Result (Piece TokenKind) BadReference → Type 0
Keeps text i used pool pool' (Ok p) = Reads text i (kind_of p.kind) p.from p.len p.next × (pool' ≡ puts pool used (kept text (kind_of p.kind) p.from p.len))
Keeps text i used pool pool' (Err r) = Refuses text i (lexeme_at text i) r × (pool' ≡ pool)

-- at place i stands no reference that can't be lexed
abbrev pub Sound : List ℕ → ℕ → Type 0
Sound text i = (e : LexError) → lexeme_at text i ≡ bad e → ⊥

-- what the pass that fills asks: room, and a text that isn't refused
pub record Fillable (text ws pool : List ℕ) : Type 0 where
  pub room : Room text ws pool
  pub fine : Accepted text

-- the entries of gathered Text, which stands in the pool from `start` up to `used`, and its number of tokens
unfoldable pub flushed : ℕ → ℕ → ℕ → List ℕ
flushed start used source = pick (ltb start used) (text_kind ∷ start ∷ (used - start) ∷ source ∷ []) []

unfoldable pub flushed_count : ℕ → ℕ → ℕ
flushed_count start used = pick (ltb start used) 1 0

-- what writing gathered Text asks
pub record FlushRoom (ws : List ℕ) (count start used source : ℕ) : Type 0 where
  pub order : start ≤ used
  pub used_small : used ≤ 65535
  pub source_small : source ≤ 65535
  pub ws_room : 4 * (count + flushed_count start used) ≤ length ws

-- the token that a lexeme of this kind at place i makes, but for Text, where the pool's end is `used`
unfoldable pub made : List ℕ → ℕ → ℕ → ℕ → ℕ → ℕ → Token
made text i kind from len used = pick (eqb kind variable_kind) (token variable_kind (take len (drop from text)) used i) (token kind (get_or text i 0 ∷ []) 0 i)

-- what writing such a token asks
pub record PutRoom (text ws pool : List ℕ) (i kind from len count used : ℕ) : Type 0 where
  pub kind_is : variable_kind ≤ kind
  pub here : i + 1 ≤ length text
  pub part : from + len ≤ length text
  pub small : length text ≤ 65535
  pub used_small : used ≤ 65535
  pub ws_room : 4 * count + 4 ≤ length ws
  pub pool_room : used + len ≤ length pool
