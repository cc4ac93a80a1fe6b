-- What each operation on the device does to what its images are read as.
use Rattle.std.proofs.Common.{◌≡◌, ◌≢◌, ◌⊎◌, ◌+◌, ℕ, List, sym, ◌∙◌, subst, inl, inr, ⊎_elim, arith}
use Rattle.std.specs.Prelude.{IsTrue}
use Rattle.vx_dev.specs.declared.device.Operation.TheVariants.{Put, Barrier}
use Rattle.vx_dev.specs.declared.device.Operation.{Operation}
use Rattle.vx_dev.specs.Tape.{Writes, Tape, did, IsImage, now}
use Rattle.vx_dev.specs.Laws.{TapeLaws}
use Rattle.vx_layout.specs.LogForms.{LogState, log_at, head_of, ReadsAs}
use Rattle.vx_log.specs.Crashes.{Holds, Stands, Either, Turns, IsDecided, IsFree}

module _ (tape : TapeLaws) (n : ℕ) where
  -- a write where no record and no open metadata is
  pub holds_put : (r : LogState) (t : Tape) (op : Operation) (u : ℕ) (bytes : List ℕ) → Writes op u bytes → IsFree n r u → Holds n r t → Holds n r (did op t)
  holds_put r t op u bytes w free h = record {
    apart = h.apart;
    ends = h.ends;
    fits = h.fits;
    whole = λ i x lt may. elim (w.may t (log_at n (r.tail + i)) x may) [
      | inl before ↦ h.whole i x lt before
      | inr here ↦ absurd (free.no_record i lt (sym here.0))
    ];
    metadata = λ s x meta may. elim (w.may t s x may) [
      | inl before ↦ h.metadata s x meta before
      | inr here ↦
          let P : ℕ → Type 0 = λ v. IsTrue (r.is_metadata v) → IsDecided r.records v in
          let decided : IsDecided r.records s = subst P (sym here.0) free.decided meta in
          decided x (now t s) ∙ h.metadata s (now t s) meta (tape.now_may t s)
    ];
  }

  pub holds_barrier : (r : LogState) (t : Tape) → Holds n r t → Holds n r (did Barrier t)
  holds_barrier r t h = record {
    apart = h.apart;
    ends = h.ends;
    fits = h.fits;
    whole = λ i x lt may. h.whole i x lt (tape.barrier_adds t (log_at n (r.tail + i)) x may);
    metadata = λ s x meta may. h.metadata s x meta (tape.barrier_adds t s x may);
  }

  pub stands_put : (r : LogState) (t : Tape) (op : Operation) (u : ℕ) (bytes : List ℕ) → Writes op u bytes → IsFree n r u → u ≢ 2 → Stands n r t → Stands n r (did op t)
  stands_put r t op u bytes w free other s = record {
    holds = holds_put r t op u bytes w free s.holds;
    head_is = λ x may. elim (w.may t 2 x may) [
      | inl before ↦ s.head_is x before
      | inr here ↦ absurd (other (sym here.0))
    ];
  }

  pub stands_barrier : (r : LogState) (t : Tape) → Stands n r t → Stands n r (did Barrier t)
  stands_barrier r t s = record {
    holds = holds_barrier r t s.holds;
    head_is = λ x may. s.head_is x (tape.barrier_adds t 2 x may);
  }

  pub either_barrier : (r r2 : LogState) (t : Tape) → Either n r r2 t → Either n r r2 (did Barrier t)
  either_barrier r r2 t e = record {
    before = holds_barrier r t e.before;
    after = holds_barrier r2 t e.after;
    either = λ x may. e.either x (tape.barrier_adds t 2 x may);
  }

  pub either_put : (r r2 : LogState) (t : Tape) (op : Operation) (u : ℕ) (bytes : List ℕ) → Writes op u bytes → IsFree n r u → IsFree n r2 u → u ≢ 2 → Either n r r2 t → Either n r r2 (did op t)
  either_put r r2 t op u bytes w free free2 other e = record {
    before = holds_put r t op u bytes w free e.before;
    after = holds_put r2 t op u bytes w free2 e.after;
    either = λ x may. elim (w.may t 2 x may) [
      | inl before ↦ e.either x before
      | inr here ↦ absurd (other (sym here.0))
    ];
  }

  pub turns_put : (r r2 : LogState) (t : Tape) (op : Operation) (u : ℕ) (bytes : List ℕ) → Writes op u bytes → IsFree n r u → IsFree n r2 u → u ≢ 2 → Turns n r r2 t → Turns n r r2 (did op t)
  turns_put r r2 t op u bytes w free free2 other turns = record {
    reads = either_put r r2 t op u bytes w free free2 other turns.reads;
    last = w.other t 2 (head_of r2) (λ same. other (sym same)) turns.last;
  }

  -- the head sector is in no record and no metadata
  head_free : (r : LogState) (t : Tape) → Holds n r t → IsFree n r 2
  head_free r t h = record {
    no_record = λ i lt e. absurd (omega (arith, e));
    decided = λ meta. absurd (⊎_elim (λ zero. omega (arith, zero)) (λ high. omega (arith, high)) (h.apart 2 meta));
  }

  -- the head sector is written, or the write fails
  pub turn_failed : (r r2 : LogState) (t : Tape) (op : Operation) → Writes op 2 (head_of r2) → Stands n r t → Holds n r2 t → Either n r r2 (did op t)
  turn_failed r r2 t op w s h = record {
    before = holds_put r t op 2 (head_of r2) w (head_free r t s.holds) s.holds;
    after = holds_put r2 t op 2 (head_of r2) w (head_free r2 t h) h;
    either = λ x may. elim (w.may t 2 x may) [
      | inl before ↦ inl (s.head_is x before)
      | inr here ↦ inr here.1
    ];
  }

  pub turn : (r r2 : LogState) (t : Tape) → Stands n r t → Holds n r2 t → Turns n r r2 (did (Put 2 (head_of r2)) t)
  turn r r2 t s h = record { reads = turn_failed r r2 t (Put 2 (head_of r2)) (tape.put_writes 2 (head_of r2)) s h; last = tape.put_settles t 2 (head_of r2) }

  -- it failed and left nothing
  pub not_turned : (r r2 : LogState) (t : Tape) → Stands n r t → Holds n r2 t → Either n r r2 t
  not_turned r r2 t s h = record { before = s.holds; after = h; either = λ x may. inl (s.head_is x may) }

  -- the barrier behind it
  pub turned : (r r2 : LogState) (t : Tape) → Turns n r r2 t → Stands n r2 (did Barrier t)
  turned r r2 t w = record {
    holds = holds_barrier r2 t w.reads.after;
    head_is = w.last;
  }

  read_with : (r : LogState) (t : Tape) (image : ℕ → List ℕ) → Holds n r t → image 2 ≡ head_of r → IsImage t image → ReadsAs n r image
  read_with r t image h head is = record {
    head_is = head;
    ends = h.ends;
    fits = h.fits;
    whole = λ i lt. h.whole i _ lt (is (log_at n (r.tail + i)));
    metadata = λ v meta. h.metadata v _ meta (is v);
  }

  -- what a crash leaves
  pub reads : (r : LogState) (t : Tape) (image : ℕ → List ℕ) → Stands n r t → IsImage t image → ReadsAs n r image
  reads r t image s is = read_with r t image s.holds (s.head_is _ (is 2)) is

  pub reads_either : (r r2 : LogState) (t : Tape) (image : ℕ → List ℕ) → Either n r r2 t → IsImage t image → ReadsAs n r image ⊎ ReadsAs n r2 image
  reads_either r r2 t image w is = elim (w.either _ (is 2)) [
    | inl old ↦ inl (read_with r t image w.before old is)
    | inr new ↦ inr (read_with r2 t image w.after new is)
  ]
