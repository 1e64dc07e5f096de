-- Laws of the call: each of the five ways that it can go. Assumes nothing.
use Rattle.std.specs.Prelude as Std
use Rattle.std.specs.Prelude.{Ok, Err}
use Prim.Native.Nat.{ℕ, ◌+◌, ◌*◌, ◌<◌, ◌≤◌}
use mathlib.Core.Path.{◌≡◌, refl, ap, sym, ◌∙◌}
use mathlib.Core.Bool.{Bool, true, false}
use mathlib.Core.List.{List}
use lib.ListN.{length, drop, replicate, length-replicate}
use lib.Dec.{ltb}
use Rattle.rules.specs.Bytes.{overwrite}
use Rattle.rules.specs.Numbers as Rules
use Rattle.rules.specs.Numbers.{number, detail, no_detail, details, Result, refused, ok}
use Rattle.rules.specs.Utf8.{well_formed}
use Rattle.rules.specs.Reading.{reading}
use Rattle.rules.specs.Reader as Reader
use Rattle.rules.specs.Reader.{Buffers, room, read_buffers, zeroed, written, untouched}
use Rattle.rules.proofs.CallLaws.{read-long, read-space, read-pool, read-utf8, read-on}
use Rattle.scan.proofs.Stores.{overwrite-cover}
use Rattle.answers.specs.declared.Refusal as Answers
use Rattle.answers.specs.declared.Refusal.TheVariants as Told
use Rattle.answers.specs.Tells.{number_of, Tells}
use Rattle.answers.specs.Refusals as Ours
use Rattle.answers.specs.Refusals.{Refuses, refusal_answer, answer_of}
use Rattle.answers.proofs.Telling.{no-names}
use Rattle.pkg_config.specs.Call.{lent, Reads, ReadsText}

-- where the document's answer has no detail
bare-tells : (e : Answers.Refusal) (a : Rules.Answer) → number_of (Ours.refusal_number e) ≡ number a → Ours.refusal_detail e ≡ Ours.details 0 Ours.no_name Ours.no_name → detail a ≡ no_detail → Tells (refusal_answer e) a
unfolding no_detail details
bare-tells e a m d x = record { is_number = m; is_value = rw (d, x) refl; is_first = rw (d, x) no-names; is_second = rw (d, x) no-names }

-- what the output and the answer are turns on the output alone
pub same_answer : (x : Result (List ℕ)) (c d : Buffers) → c.output ≡ d.output → ((written x c).answer ≡ (written x d).answer) × ((written x c).after.output ≡ (written x d).after.output)
unfolding written
same_answer (refused r) c d e = (refl, e)
same_answer (ok rs) c d e = go (ltb (length d.output) (length rs)) refl
  where
    go : (t : Bool) → ltb (length d.output) (length rs) ≡ t → ((written (ok rs) c).answer ≡ (written (ok rs) d).answer) × ((written (ok rs) c).after.output ≡ (written (ok rs) d).after.output)
    go true q = let z : ltb (length c.output) (length rs) ≡ true = ap (λ (o : List ℕ). ltb (length o) (length rs)) e ∙ q in rw (z, q, written) (refl, e)
    go false q = let z : ltb (length c.output) (length rs) ≡ false = ap (λ (o : List ℕ). ltb (length o) (length rs)) e ∙ q in rw (z, q, written) (refl, ap (overwrite rs) e)

module _ (text ws pool out : List ℕ) where
  -- all as it was
  as-found : (e : Answers.Refusal) (a : Rules.Answer) → Reader.read text (lent ws pool out) ≡ untouched a (lent ws pool out) → number_of (Ours.refusal_number e) ≡ number a
      → Ours.refusal_detail e ≡ Ours.details 0 Ours.no_name Ours.no_name → detail a ≡ no_detail → Reads text ws pool out ws pool out (Err e)
  unfolding untouched
  as-found e a q m x d = record {
    is_answer = rw q (bare-tells e a m x d);
    is_workspace = rw q refl;
    is_pool = rw q refl;
    is_output = rw q refl;
  }

  pub too_long : 65535 < length text → Reads text ws pool out ws pool out (Err Told.TooLong)
  unfolding number detail
  too_long h = as-found Told.TooLong Rules.too_long (read-long text (lent ws pool out) h) refl refl refl

  pub workspace-short : length text ≤ 65535 → length ws < 12 * length text + 64 → Reads text ws pool out ws pool out (Err Told.WorkspaceShort)
  unfolding number detail room
  workspace-short s h = as-found Told.WorkspaceShort Rules.workspace_short (read-space text (lent ws pool out) s h) refl refl refl

  pub pool-short : length text ≤ 65535 → 12 * length text + 64 ≤ length ws → length pool < length text → Reads text ws pool out ws pool out (Err Told.PoolShort)
  unfolding number detail room
  pool-short s w h = as-found Told.PoolShort Rules.pool_short (read-pool text (lent ws pool out) s w h) refl refl refl

  pub not-utf8 : (u : Bool) → length text ≤ 65535 → 12 * length text + 64 ≤ length ws → length text ≤ length pool → u ≡ well_formed text → u ≡ false
      → Reads text ws pool out ws pool out (Err Told.NotUtf8)
  unfolding number detail room
  not-utf8 u s w p e f = as-found Told.NotUtf8 Rules.not_utf8 (read-utf8 text (lent ws pool out) s w p (sym e ∙ f)) refl refl refl

  kept : (x : Result (List ℕ)) (c : Buffers) → ((written x c).after.workspace ≡ c.workspace) × ((written x c).after.pool ≡ c.pool)
  unfolding written
  kept (refused r) c = (refl, refl)
  kept (ok rs) c = go (ltb (length c.output) (length rs)) refl
    where
      go : (t : Bool) → ltb (length c.output) (length rs) ≡ t → ((written (ok rs) c).after.workspace ≡ c.workspace) × ((written (ok rs) c).after.pool ≡ c.pool)
      go true q = rw (q, written) (refl, refl)
      go false q = rw (q, written) (refl, refl)

  -- the text is read, and the workspace zeroed
  pub was_read : (r : Std.Result ℕ Answers.Refusal) (u : Bool) (ws₁ ws₂ pool' out' : List ℕ) → length text ≤ 65535 → 12 * length text + 64 ≤ length ws → length text ≤ length pool → u ≡ well_formed text → u ≡ true
      → ReadsText text ws pool out ws₁ pool' out' r → ws₂ ≡ overwrite (replicate (12 * length text + 64) 0) ws₁ → Reads text ws pool out ws₂ pool' out' r
  unfolding read_buffers zeroed room
  was_read r u ws₁ ws₂ pool' out' s w p e f h z =
      let q = read-on text (lent ws pool out) (record { short = s; space = w; pools = p; utf8 = sym e ∙ f }) in
      let same = same_answer (reading text) (lent ws out out) (read_buffers text (lent ws pool out)) refl in
      let rest = kept (reading text) (read_buffers text (lent ws pool out)) in
      let l : length (replicate {A = ℕ} (12 * length text + 64) 0) ≡ 12 * length text + 64 = length-replicate {A = ℕ} (12 * length text + 64) 0 in
      record {
        is_answer = rw (q, ← same.0) h.ends.is_answer;
        is_workspace = rw q (z ∙ overwrite-cover (replicate (12 * length text + 64) 0) ws₁ ws (ap (λ (k : ℕ). drop k ws₁) l ∙ h.ends.beyond ∙ sym (ap (λ (k : ℕ). drop k ws) l)) ∙ sym rest.0);
        is_pool = rw q (h.is_pool ∙ sym rest.1);
        is_output = rw q (h.ends.is_output ∙ same.1);
      }
