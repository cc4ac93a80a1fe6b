-- Committed sectors are written home, after which the tail may move.
use Rattle.std.proofs.Common.{◌≡◌, ◌≢◌, ◌⊎◌, ◌+◌, ◌<◌, ◌≤◌, ℕ, List, ◌∙◌, subst, inl, inr, ⊎_elim, arith}
use Rattle.std.specs.Prelude.{IsTrue}
use Rattle.vx_dev.specs.declared.device.Operation.TheVariants.{Put, Barrier}
use Rattle.vx_dev.specs.declared.device.Operation.{Operation}
use Rattle.vx_dev.specs.Tape.{Tape, Writes, did, MayHold, Settles}
use Rattle.vx_dev.specs.Laws.{TapeLaws}
use Rattle.vx_layout.specs.LogForms.{AfterImage, LogState, overlay_all}
use Rattle.vx_log.specs.Crashes.{Holds, IsDecided, IsFree, IsHomeBut, IsPutHome, IsStableHome}

pub home_put : TapeLaws → (r : LogState) (s : ℕ) (t : Tape) (bytes : List ℕ) → bytes ≡ r.contents s → IsPutHome r s (did (Put s bytes) t)
home_put tape r s t bytes is = subst (λ (b : List ℕ). Settles (did (Put s bytes) t) s b) is (tape.put_settles t s bytes)

pub home_put_other : TapeLaws → (r : LogState) (u s : ℕ) (t : Tape) (bytes : List ℕ) → s ≢ u → IsPutHome r s t → IsPutHome r s (did (Put u bytes) t)
home_put_other tape r u s t bytes other put = tape.put_elsewhere t u s bytes (r.contents s) other put

pub home_stable : (r : LogState) (s : ℕ) (t : Tape) → IsPutHome r s t → IsStableHome r s (did Barrier t)
home_stable r s t put = put

pub stable_barrier : TapeLaws → (r : LogState) (s : ℕ) (t : Tape) → IsStableHome r s t → IsStableHome r s (did Barrier t)
stable_barrier tape r s t stable x may = stable x (tape.barrier_adds t s x may)

pub stable_other : (r : LogState) (u s : ℕ) (t : Tape) (op : Operation) (bytes : List ℕ) → Writes op u bytes → s ≢ u → IsStableHome r s t → IsStableHome r s (did op t)
stable_other r u s t op bytes w other stable x may = elim (w.may t s x may) [ inl before ↦ stable x before | inr here ↦ absurd (other here.0) ]

-- a sector that the rest of the records decides needs no home
pub all_home : (n : ℕ) (r : LogState) (rest : List (List AfterImage)) (t : Tape) → Holds n r t
    → ((s : ℕ) → IsTrue (r.is_metadata s) → ((x : List ℕ) → overlay_all rest s x ≡ overlay_all r.records s x) ⊎ ((x : List ℕ) → MayHold t s x → overlay_all rest s x ≡ r.contents s)) → IsHomeBut r rest t
all_home n r rest t h each s x meta may = elim (each s meta) [
  | inl same ↦ same x ∙ h.metadata s x meta may
  | inr home ↦ home x may
]

-- a home that a record names may be written at any time, with whatever bytes
pub home_free : (n : ℕ) (r : LogState) (t : Tape) (u : ℕ) → 0 < n → Holds n r t → IsTrue (r.is_metadata u) → IsDecided r.records u → IsFree n r u
home_free n r t u some h meta decided = record {
  no_record = λ i lt e. absurd (⊎_elim (λ zero. omega (arith, zero, e)) (λ high. omega (arith, high, e, some)) (h.apart u meta));
  decided = λ _. decided;
}

-- a sector that is neither the head sector nor in the log, and holds no metadata
pub data_free : (n : ℕ) (r : LogState) (u : ℕ) → 0 < n → 4 + n ≤ u → (IsTrue (r.is_metadata u) → ⊥) → IsFree n r u
data_free n r u some far data_only = record {
  no_record = λ i lt e. absurd (omega (arith, far, e, some));
  decided = λ meta. absurd (data_only meta);
}
