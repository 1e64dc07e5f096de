-- Laws of reading a text: lexing, then lines, then the stages after them. Assumes nothing.
use Rattle.std.specs.Prelude as Std
use Rattle.std.specs.Prelude.{Ok, Err}
use Prim.Native.Nat.{ℕ, suc, ◌+◌, ◌*◌, ◌-◌, ◌<◌, ◌≤◌}
use mathlib.Core.Path.{◌≡◌, refl, ap, sym, ◌∙◌, subst}
use mathlib.Core.Bool.{true, false}
use mathlib.Core.List.{List}
use native.Mathlib.Omega.{arith}
use lib.ListN.{length, get_or, drop}
use lib.Seq.{drop-drop, get_or-take, get_or-drop}
use borrow.Author.Tests.{le-leb, lt-leb}
use Rattle.rules.specs.Bytes.{overwrite}
use Rattle.rules.specs.Tokens.{Token}
use Rattle.rules.specs.Numbers.{Refusal, lex_error, number, detail, details, lex_number, code_point_of, refusal_number, refusal_detail, Result, refused, ok, ◌>>=◌}
use Rattle.rules.specs.Lexing.{tokens}
use Rattle.rules.specs.Lines.{File, no_lines, lines, read_lines, is_string}
use Rattle.rules.specs.Reading.{file, records_of_file, reading}
use Rattle.rules.specs.Reader.{pool_after}
use Rattle.scan.proofs.Stores.{drop-overwrite}
use Rattle.answers.specs.declared.Refusal as Answers
use Rattle.answers.specs.Refusals.{Refuses}
use Rattle.answers.proofs.Telling.{no-names}
use Rattle.tokens.specs.Entries.{decode, entries}
use Rattle.tokens.proofs.TokenLaws.{length-entries}
use Rattle.lexer.specs.Lexes as Lexes
use Rattle.lexer.specs.Lexes.{error_of, refusal_of}
use Rattle.lexer.specs.declared.LexError.{LexError}
use Rattle.lexer.specs.declared.LexError.TheVariants as E
use Rattle.lexer.specs.declared.LexRefusal.{LexRefusal}
use Rattle.lexer.specs.declared.Filled.{Filled}
use Rattle.lexer.proofs.Outcomes.{lexed-back, count_fits, long_ws, when-tokens, when-refused}
use Rattle.workspace.specs.Map.{keys_of, file_in}
use Rattle.workspace.proofs.Files.{held-file}
use Rattle.workspace.proofs.Links.{keys_length}
use Rattle.names.proofs.Places.{all-at}
use Rattle.parser.specs.Parse.{VariableWithin, FieldWithin, EntryWithin, Parsable, FileHeld, Parses, Beyond}
use Rattle.parser.proofs.Lexed.{lexed-fresh}
use Rattle.writer.specs.Tables.{tables_in}
use Rattle.records.specs.Contents.{fields_of, Spans}
use Rattle.pkg_config.specs.Call.{Ends, Lent, ReadsText, lines_read}
use Rattle.pkg_config.specs.Stages.{Filed}
use Rattle.pkg_config.proofs.Stages.{ends-refused, ends_on}

lex-tells : (e : LexError) (at : ℕ) → Refuses (refusal_of e) (lex_error (error_of e) at)
unfolding number detail refusal_number refusal_detail lex_number code_point_of details
lex-tells E.MissingCloseVariable at = record { is_number = refl; is_value = refl; is_first = no-names; is_second = no-names }
lex-tells (E.InvalidVariableChar c) at = record { is_number = refl; is_value = refl; is_first = no-names; is_second = no-names }

-- the file that the lines left
module _ (n count v : ℕ) (ws pool : List ℕ) (x : File) (H : FileHeld n count v ws pool x) where
  entry_of : (f : ℕ) → f ≤ 10 → get_or (fields_of n ws) f 0 ≡ get_or ws (12 * n + f) 0
  entry_of f h = get_or-take 11 (drop (12 * n) ws) f 0 (omega arith) ∙ get_or-drop (12 * n) ws f 0

  field-within : (f k : ℕ) → 1 ≤ f → f ≤ 10 → get_or (fields_of n ws) f 0 ≡ suc k → FieldWithin n f count ws k
  field-within f k a b e = subst (EntryWithin n f count ws) (sym (entry_of f b) ∙ e) (H.within.fields f a b)

  string-field : (f : ℕ) → f ≤ 7 → is_string f ≡ true
  unfolding is_string
  string-field f h = le-leb f 7 h

  list-field : (f : ℕ) → 7 < f → is_string f ≡ false
  unfolding is_string
  list-field f h = lt-leb f 7 h

  spans : Spans count (tables_in n count v ws pool) (fields_of n ws)
  spans = record {
    strings = λ f k a b e. ((field-within f k a (omega arith) e).string (string-field f b)).high;
    lists = λ f k a b e. omega (arith, (field-within f k (omega arith) b e).rows (list-field f a), H.room.tokens, H.room.small);
    rows = λ f k i a b e p q. ((field-within f k (omega arith) b e).arguments (list-field f a) i p q).high;
  }

  filed : Filed n count v ws pool
  filed = record {
    room = H.room;
    sorted = H.sorted;
    texts = H.texts;
    in_table = λ j h.
        (all-at (VariableWithin n count ws) (keys_of n v ws) j (omega (arith, keys_length n count v ws pool (omega (arith, H.room.room, H.room.tokens, H.room.few)))) H.within.variables).high;
    spans = spans;
  }

lines_ok : (ts : List Token) (x : File) → read_lines no_lines (lines ts) ≡ ok x → lines_read ts ≡ records_of_file x
unfolding lines_read ◌>>=◌
lines_ok ts x e = rw (e, lines_read, ◌>>=◌) refl

lines-refused : (ts : List Token) (r : Refusal) → read_lines no_lines (lines ts) ≡ refused r → lines_read ts ≡ refused r
unfolding lines_read ◌>>=◌
lines-refused ts r e = rw (e, lines_read, ◌>>=◌) refl

-- after the lines
module _ (n count : ℕ) (ws ws₁ pool : List ℕ) (p : Std.Result ℕ Answers.Refusal) (h : Parses n count ws ws₁ pool p × Beyond n ws ws₁) where
  as-lines : (v : ℕ) → p ≡ Ok v → Parses n count ws ws₁ pool (Ok v)
  as-lines v q = subst (Parses n count ws ws₁ pool) q h.0

  pub lines-filed : (v : ℕ) → p ≡ Ok v → Filed n count v ws₁ pool
  lines-filed v q = let x = as-lines v q in filed n count v ws₁ pool x.0 x.2

  pub lines_end : (v : ℕ) (ws₂ out out' : List ℕ) (a : Std.Result ℕ Answers.Refusal) → p ≡ Ok v → Ends n (records_of_file (file_in n count v ws₁ pool)) ws₁ out ws₂ out' a → Ends n (lines_read (decode count ws pool)) ws out ws₂ out' a
  lines_end v ws₂ out out' a q e =
      let x = as-lines v q in
      ends_on n (records_of_file (file_in n count v ws₁ pool)) (lines_read (decode count ws pool)) ws ws₁ ws₂ out out' a
      (lines_ok (decode count ws pool) x.0 x.1 ∙ sym (held-file n count v ws₁ pool x.0 x.2.holds)) h.1 e

  pub lines-stop : (a : Answers.Refusal) (out : List ℕ) → p ≡ Err a → Ends n (lines_read (decode count ws pool)) ws out ws₁ out (Err a)
  lines-stop a out q =
      let x = subst (Parses n count ws ws₁ pool) q h.0 in
      ends-refused n (lines_read (decode count ws pool)) ws out ws₁ h.1 x.0 a (lines-refused (decode count ws pool) x.0 x.1) x.2

reading-ok : (text : List ℕ) (ts : List Token) → tokens text ≡ ok ts → reading text ≡ lines_read ts
unfolding reading file ◌>>=◌ lines_read
reading-ok text ts e = rw (e, reading, file, ◌>>=◌) refl

reading-refused : (text : List ℕ) (r : Refusal) → tokens text ≡ refused r → reading text ≡ refused r
unfolding reading file ◌>>=◌
reading-refused text r e = rw (e, reading, file, ◌>>=◌) refl

drop-front : (k : ℕ) (xs l : List ℕ) → length xs ≤ k → drop k (overwrite xs l) ≡ drop k l
drop-front k xs l h =
    let e : length xs + (k - length xs) ≡ k = omega arith in
    ap (λ (m : ℕ). drop m (overwrite xs l)) (sym e) ∙ sym (drop-drop (k - length xs) (length xs) (overwrite xs l))
    ∙ ap (drop (k - length xs)) (drop-overwrite xs l) ∙ drop-drop (k - length xs) (length xs) l ∙ ap (λ (m : ℕ). drop m l) e

-- after lexing
module _ (text ws ws₁ pool pool₁ : List ℕ) (r : Std.Result Filled LexRefusal) (h : Lexes.Lexes text ws ws₁ pool pool₁ r) (b : Lent text ws pool) where
  room : Lexes.Room text ws pool
  room = record { small = b.short; ws_room = omega (arith, b.space); pool_room = b.pools }

  pub tokens-parsable : (n : ℕ) (f : Filled) → n ≡ length text → r ≡ Ok f → Parsable n f.count ws₁
  tokens-parsable n f e q =
      let x = when-tokens text ws ws₁ pool pool₁ r h f q in
      record {
        small = omega (arith, b.short, e);
        room = omega (arith, b.space, e, long_ws text ws ws₁ pool pool₁ f.count f.used room x);
        tokens = omega (arith, e, count_fits text ws ws₁ pool pool₁ f.count f.used room x);
        fresh = lexed-fresh text x.ts f.count ws₁ pool₁ x.is_tokens (lexed-back text ws ws₁ pool pool₁ f.count f.used x);
      }

  pub tokens-end : (n : ℕ) (f : Filled) (ws₂ out out' : List ℕ) (a : Std.Result ℕ Answers.Refusal) → n ≡ length text → r ≡ Ok f → Ends n (lines_read (decode f.count ws₁ pool₁)) ws₁ out ws₂ out' a
      → ReadsText text ws pool out ws₂ pool₁ out' a
  unfolding pool_after
  tokens-end n f ws₂ out out' a e q d =
      let x = when-tokens text ws ws₁ pool pool₁ r h f q in
      let c = count_fits text ws ws₁ pool pool₁ f.count f.used room x in
      let past : drop (12 * length text + 64) ws₁ ≡ drop (12 * length text + 64) ws =
      ap (drop (12 * length text + 64)) x.is_ws ∙ drop-front (12 * length text + 64) (entries x.ts) ws (omega (arith, length-entries x.ts, x.is_count, c)) in
      record {
        ends = ends_on (length text) (lines_read (decode f.count ws₁ pool₁)) (reading text) ws ws₁ ws₂ out out' a
            (reading-ok text x.ts x.is_tokens ∙ ap lines_read (sym (lexed-back text ws ws₁ pool pool₁ f.count f.used x))) past (rw e at d);
        is_pool = x.is_pool ∙ sym (ap (λ (o : Result (List Token)). pool_after o pool) x.is_tokens);
      }

  pub lexing-stop : (e : LexRefusal) (out : List ℕ) → r ≡ Err e → ReadsText text ws pool out ws₁ pool₁ out (Err (refusal_of e.error))
  unfolding pool_after
  lexing-stop e out q =
      let x = when-refused text ws ws₁ pool pool₁ r h e q in
      record {
        ends = ends-refused (length text) (reading text) ws out ws₁ (ap (drop (12 * length text + 64)) x.same_ws) (lex_error (error_of e.error) e.at) (refusal_of e.error) (reading-refused text (lex_error (error_of e.error) e.at) x.is_refused) (lex-tells e.error e.at);
        is_pool = x.same_pool ∙ sym (ap (λ (o : Result (List Token)). pool_after o pool) x.is_refused);
      }
