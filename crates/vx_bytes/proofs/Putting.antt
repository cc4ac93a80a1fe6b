-- Pages put to a device, and every moment within a list of writes of other sectors.
use Rattle.std.proofs.Common.{◌≡◌, ◌⊎◌, ◌+◌, ◌*◌, ◌≤◌, ℕ, zero, suc, Bool, List, [], ◌∷◌, take, refl, sym, ◌∙◌, ap, subst, inl, inr, arith}
use Rattle.std.specs.List.{AllByRecursion}
use Rattle.std.proofs.lemmas.List.{append_assoc, append-nil}
use Rattle.vx_base.specs.declared.event.Event.{Event}
use Rattle.vx_base.specs.declared.mode.Logging.{Logging}
use Rattle.vx_dev.specs.declared.device.Operation.{Operation}
use Rattle.vx_dev.specs.declared.device.Operation.TheVariants.{Put}
use Rattle.vx_dev.specs.Laws.{TapeLaws}
use Rattle.vx_dev.specs.Runs.{did_all}
use Rattle.vx_dev.specs.Tape.{Tape, Settles, did, tried, Writes}
use Rattle.vx_model.specs.Legal.{World}
use Rattle.vx_bytes.specs.Standings.{Changed, Mark}
use Rattle.vx_bytes.specs.Standings.{Put as Sent}
use Rattle.vx_bytes.specs.Histories.{present, story, byte_of}
use Rattle.vx_bytes.specs.Promises.{file_in}
use Rattle.vx_bytes.specs.Kept.{Progress, Sinces, HoldsFiles, IsApartFromFiles, MayPut, WritesNamed, marked, page_put}
use Rattle.vx_bytes.specs.BlockUse.{UsesBlocks}
use Rattle.vx_bytes.proofs.Cuts.{cut_within}
use Rattle.vx_bytes.proofs.Filing.{files_elsewhere, files_put, elsewhere_by, ends_now}
use Rattle.vx_bytes.proofs.BlockTurns.{cut_before, uses_foreign}

story_now : (mode : Logging) (o : World) (h : List Event) (ino i : ℕ) → (story mode o h ino).byte i (story mode o h ino).ends ≡ byte_of (file_in (present o h) ino) i
unfolding story
story_now mode o h ino i = refl

module _ (laws : TapeLaws) (mode : Logging) (o : World) (h : List Event) (p : Progress) (since : Sinces) (uses : UsesBlocks o h p.committed p.closing) where
  put_by : (t : Tape) (ino q u : ℕ) (bytes : List ℕ) (op : Operation) (mark : Mark) → Writes op u bytes → (mark ≡ Changed) ⊎ ((mark ≡ Sent) × Settles (did op t) u bytes) → MayPut o h p.committed ino q u bytes → HoldsFiles mode o h p since t → HoldsFiles mode o h (marked ino q mark p) since (did op t)
  put_by t ino q u bytes op mark writes which may old =
      let order : p.committed ≤ p.closing = (old ino).order.k in
      let cuts = cut_before o h p uses ino q u may.cut_durable order may.here in
      files_put mode o h p since t ino q u bytes op mark writes which may.here cuts.0 cuts.1 (omega (arith, cut_within o h ino, ends_now mode o h ino)) (λ i at. may.content i at ∙ sym (story_now mode o h ino i)) (λ n other. uses_foreign o h p uses since ino n q u (λ same. other (sym same)) may.here) old

  pub put : (t : Tape) (ino q u : ℕ) (bytes : List ℕ) → MayPut o h p.committed ino q u bytes → HoldsFiles mode o h p since t → HoldsFiles mode o h (marked ino q Sent p) since (did (Put u bytes) t)
  put t ino q u bytes may old = put_by t ino q u bytes (Put u bytes) Sent (laws.put_writes u bytes) (inr (refl, laws.put_settles t u bytes)) may old

  pub put_failed : (t : Tape) (ino q u : ℕ) (bytes : List ℕ) → MayPut o h p.committed ino q u bytes → HoldsFiles mode o h p since t → HoldsFiles mode o h (marked ino q Changed p) since (did (tried u bytes) t)
  put_failed t ino q u bytes may old = put_by t ino q u bytes (tried u bytes) Changed (laws.failed_writes u bytes) (inl refl) may old

-- both halves of a page
pub put_page : TapeLaws → (mode : Logging) (o : World) (h : List Event) (p : Progress) (since : Sinces) (t : Tape) (ino page u v : ℕ) (first second : List ℕ) → UsesBlocks o h p.committed p.closing → MayPut o h p.committed ino (2 * page) u first → MayPut o h p.committed ino (2 * page + 1) v second →
    HoldsFiles mode o h p since t → HoldsFiles mode o h (page_put ino page p) since (did (Put v second) (did (Put u first) t))
put_page laws mode o h p since t ino page u v first second uses may may_second old =
    put laws mode o h (marked ino (2 * page) Sent p) since uses (did (Put u first) t) ino (2 * page + 1) v second may_second (put laws mode o h p since uses t ino (2 * page) u first may old)

-- ---- writes of sectors that are named

all_next : (op : Operation) (ops : List Operation) (t : Tape) → did_all ops (did op t) ≡ did_all (op ∷ ops) t
all_next op ops t = ap (λ (l : List Operation). record { start = t.start; ops = l }) (append_assoc t.ops (op ∷ []) ops)

module _ (mode : Logging) (o : World) (h : List Event) (p : Progress) (since : Sinces) (is_named : ℕ → Bool) (apart : IsApartFromFiles o h p.committed p.closing is_named) where
  files_all : (ops : List Operation) (t : Tape) → AllByRecursion (WritesNamed is_named) ops → HoldsFiles mode o h p since t → HoldsFiles mode o h p since (did_all ops t)
  files_all [] t each old = subst (λ (l : List Operation). HoldsFiles mode o h p since (record { start = t.start; ops = l })) (sym (append-nil t.ops)) old
  files_all (op ∷ ops) t each old = subst (λ (u : Tape). HoldsFiles mode o h p since u) (all_next op ops t)
      (files_all ops (did op t) each.1 (files_elsewhere mode o h p since t op each.0.sector each.0.bytes each.0.writes (elsewhere_by o h p since is_named each.0.sector each.0.named apart) old))

  front_named : (ops : List Operation) (j : ℕ) → AllByRecursion (WritesNamed is_named) ops → AllByRecursion (WritesNamed is_named) (take j ops)
  front_named ops zero each = tt
  front_named [] (suc j) each = tt
  front_named (op ∷ ops) (suc j) each = (each.0, front_named ops j each.1)

  -- after so many of these operations
  pub files_moments : (ops : List Operation) (t : Tape) (j : ℕ) → AllByRecursion (WritesNamed is_named) ops → HoldsFiles mode o h p since t → HoldsFiles mode o h p since (did_all (take j ops) t)
  files_moments ops t j each old = files_all (take j ops) t (front_named ops j each) old
