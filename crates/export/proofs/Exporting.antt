-- Laws of the exported calls. Assumes nothing.
use Prim.Native.Nat.{ℕ, ◌<◌, ◌≤◌}
use mathlib.Core.Path.{◌≡◌, refl, ap, sym, ◌∙◌, subst}
use mathlib.Core.Bool.{Bool, true, false}
use mathlib.Core.List.{List}
use lib.ListN.{length, replicate, length-replicate}
use lib.Dec.{ltb}
use borrow.Author.Tests.{lt-ltb, le-ltb}
use Rattle.rules.specs.Bytes.{to_little, overwrite}
use Rattle.rules.specs.Numbers as Rules
use Rattle.rules.specs.Numbers.{number, detail, Result, refused, ok}
use Rattle.rules.specs.Reading.{reading}
use Rattle.rules.specs.Reader.{Outcome, read_buffers, untouched, read}
use Rattle.rules.specs.Export.{name_bytes, detail_bytes, with_detail, exported_in, exported}
use Rattle.rules.proofs.CallLaws.{Checked, checked, read-long, read-space, read-pool, read-utf8, read-on, written-buffers}
use Rattle.std.specs.Prelude as Std
use Rattle.answers.specs.declared.Answer.{Answer}
use Rattle.answers.specs.declared.Refusal.{Refusal}
use Rattle.answers.specs.Refusals.{answer_of}
use Rattle.answers.specs.Tells.{number_of, Tells}
use Rattle.pkg_config.specs.Call.{lent, Reads}
use Rattle.pkg_config.proofs.Calls.{same_answer}
use Rattle.export.specs.Calls.{ExportsIn, ExportsWith, Exports, detail_of}

-- the answer's numbers are the document's
detail-is : (a : Answer) (b : Rules.Answer) → Tells a b → detail_of a ≡ detail_bytes b
unfolding detail_bytes name_bytes to_little
detail-is a b t =
    rw (← t.is_number, ← t.is_value, ← t.is_first.is_place, ← t.is_first.is_length, ← t.is_second.is_place, ← t.is_second.is_length) refl

-- what the workspace holds has no effect on the answer, the pool and the output
pub record Same (o p : Outcome) : Type 0 where
  pub answer : o.answer ≡ p.answer
  pub pool : o.after.pool ≡ p.after.pool
  pub output : o.after.output ≡ p.after.output

module _ (text ws pool out det : List ℕ) where
  pub detail-short : (r : ℕ) → length det < 48 → r ≡ 19 → ExportsIn text ws pool out det ws pool out det r
  unfolding exported_in number
  detail-short r h e =
      let q = lt-ltb (length det) 48 h in
      record { is_number = rw (q, exported_in) e; is_workspace = rw (q, exported_in) refl; is_pool = rw (q, exported_in) refl; is_output = rw (q, exported_in) refl; is_detail = rw (q, exported_in) refl }

  pub detail-written : (ws' pool' out' det' : List ℕ) (x : Std.Result ℕ Refusal) (a : Answer) (r : ℕ) → 48 ≤ length det → Reads text ws pool out ws' pool' out' x → a ≡ answer_of x → det' ≡ overwrite (detail_of a) det → r ≡ number_of a.number
      → ExportsIn text ws pool out det ws' pool' out' det' r
  unfolding exported_in with_detail
  detail-written ws' pool' out' det' x a r h R z d e =
      let t : Tells a (read text (lent ws pool out)).answer = rw z R.is_answer in
      let q = le-ltb (length det) 48 h in
      record {
        is_number = rw (q, exported_in) (e ∙ t.is_number);
        is_workspace = rw (q, exported_in) R.is_workspace;
        is_pool = rw (q, exported_in) R.is_pool;
        is_output = rw (q, exported_in) R.is_output;
        is_detail = rw (q, exported_in) (d ∙ ap (λ (x : List ℕ). overwrite x det) (detail-is a (read text (lent ws pool out)).answer t));
      }

  same_read : (other : List ℕ) → length ws ≡ length other → Same (read text (lent ws pool out)) (read text (lent other pool out))
  unfolding untouched read_buffers
  same_read other l = go (checked text (lent other pool out))
    where
      go : Checked text (lent other pool out) → Same (read text (lent ws pool out)) (read text (lent other pool out))
      go (Checked.answers1 h e) = rw (read-long text (lent ws pool out) h, e) (record { answer = refl; pool = refl; output = refl })
      go (Checked.answers2 h k e) = rw (read-space text (lent ws pool out) h (rw l k), e) (record { answer = refl; pool = refl; output = refl })
      go (Checked.answers3 h k m e) = rw (read-pool text (lent ws pool out) h (rw l k) m, e) (record { answer = refl; pool = refl; output = refl })
      go (Checked.answers4 h k m u e) = rw (read-utf8 text (lent ws pool out) h (rw l k) m u, e) (record { answer = refl; pool = refl; output = refl })
      go (Checked.goes_on r e) =
          let s = same_answer (reading text) (read_buffers text (lent ws pool out)) (read_buffers text (lent other pool out)) refl in
          rw (read-on text (lent ws pool out) (record { short = r.short; space = rw l r.space; pools = r.pools; utf8 = r.utf8 }), e)
          (record {
            answer = s.0;
            pool = (written-buffers (reading text) (read_buffers text (lent ws pool out))).pool ∙ sym (written-buffers (reading text) (read_buffers text (lent other pool out))).pool;
            output = s.1;
          })

  pub any-workspace : (ws' pool' out' det' : List ℕ) (r : ℕ) → ExportsIn text ws pool out det ws' pool' out' det' r → ExportsWith (length ws) text pool out det pool' out' det' r
  unfolding exported_in with_detail
  any-workspace ws' pool' out' det' r x = go (ltb (length det) 48) refl
    where
      s : Same (read text (lent ws pool out)) (read text (lent (replicate (length ws) 0) pool out))
      s = same_read (replicate (length ws) 0) (sym (length-replicate {A = ℕ} (length ws) 0))

      go : (b : Bool) → ltb (length det) 48 ≡ b → ExportsWith (length ws) text pool out det pool' out' det' r
      go true q = record {
        is_number = rw (q, exported_in) (rw (q, exported_in) at x.is_number);
        is_pool = rw (q, exported_in) (rw (q, exported_in) at x.is_pool);
        is_output = rw (q, exported_in) (rw (q, exported_in) at x.is_output);
        is_detail = rw (q, exported_in) (rw (q, exported_in) at x.is_detail);
      }
      go false q = record {
        is_number = rw (q, exported_in) (rw (q, exported_in) at x.is_number ∙ ap number s.answer);
        is_pool = rw (q, exported_in) (rw (q, exported_in) at x.is_pool ∙ s.pool);
        is_output = rw (q, exported_in) (rw (q, exported_in) at x.is_output ∙ s.output);
        is_detail = rw (q, exported_in) (rw (q, exported_in) at x.is_detail ∙ ap (λ (y : Rules.Answer). overwrite (detail_bytes y) det) s.answer);
      }

  pub own-workspace : (entries : ℕ) (pool' out' det' : List ℕ) (r : ℕ) → entries ≡ 16384 → ExportsWith entries text pool out det pool' out' det' r → Exports text pool out det pool' out' det' r
  unfolding exported
  own-workspace entries pool' out' det' r e x =
      let y : ExportsWith 16384 text pool out det pool' out' det' r = subst (λ (k : ℕ). ExportsWith k text pool out det pool' out' det' r) e x in
      record { is_number = y.is_number; is_pool = y.is_pool; is_output = y.is_output; is_detail = y.is_detail }
