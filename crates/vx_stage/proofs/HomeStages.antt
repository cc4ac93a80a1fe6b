-- A stage of up to eight home sectors: those that were written earlier stay.
use Rattle.std.proofs.Common.{◌≡◌, ℕ, suc, ◌+◌, ◌-◌, ◌<◌, ◌≤◌, List, [], ◌∷◌, length, take, drop, get_or, Option, Some, refl, sym, ap, subst, ◌∙◌, arith, inl, inr, append_assoc, length-take, length-drop}
use Rattle.std.specs.Prelude.{IfSome, option_map, slice_range}
use Rattle.std.specs.List.Sorted.{IsStrictlyIncreasing}
use Rattle.std.proofs.lemmas.Bool.{cases_lt, cases_eq}
use Rattle.std.proofs.lemmas.List.{append-nil, get_or-take, get_or-drop, take_all}
use Rattle.vx_dev.specs.declared.device.Operation.{Operation}
use Rattle.vx_dev.specs.declared.device.Operation.TheVariants.{Put}
use Rattle.vx_dev.specs.Laws.{TapeLaws}
use Rattle.vx_dev.specs.Tape.{Tape, State as Device, Settles, did, IsInStep}
use Rattle.vx_layout.specs.LogForms.{AfterImage, LogState, ReadsAs}
use Rattle.vx_layout.specs.Supers.{IsSuper}
use Rattle.vx_log.specs.Batches.{sectors_of}
use Rattle.vx_log.specs.Crashes.{Stands, IsPutHome}
use Rattle.vx_dev.specs.Moments.{Told, Past}
use Rattle.vx_dev.specs.Runs.{did_all, Ran, BrokeOff, puts}
use Rattle.vx_log.specs.Stages.{AreHomes, AreWritten}
use Rattle.vx_dev.proofs.Claims.{told_weaker}
use Rattle.vx_log.specs.Batches.{noted_at}
use Rattle.vx_model.specs.Legal.{World}
use Rattle.vx_stage.specs.Kernels.{log_size, IsNoted, HasRun, IsLogOf, Now, IsLive}
use Rattle.vx_stage.specs.KernelLaws.{KernelLaws}
use Rattle.vx_stage.specs.declared.kernel.Job.{Job}
use Rattle.vx_stage.specs.declared.kernel.Job.TheVariants.{Homes, HomesOut, Broken}
use Rattle.vx_stage.specs.declared.kernel.Kernel.{Kernel}
use Rattle.vx_stage.proofs.Stages.{Claim, IsShown, told_on, told_at, way, shown}
use Rattle.vx_stage.proofs.Commits.{other_job}

abbrev nothing : ℕ × List ℕ
nothing = (0, [])

-- a run of writes that put right contents leaves what is right
run_settles : TapeLaws → (contents : ℕ → List ℕ) (writes : List (ℕ × List ℕ)) (q : ℕ) → ((j : ℕ) → j < length writes → (get_or writes j nothing).1 ≡ contents (get_or writes j nothing).0) → (t : Tape) → Settles t q (contents q) → Settles (did_all (puts writes) t) q (contents q)
run_settles laws contents [] q right t h = subst (λ (l : List Operation). Settles (record { start = t.start; ops = l }) q (contents q)) (sym (append-nil t.ops)) h
run_settles laws contents (w ∷ writes) q right t h =
    let one : Settles (did (Put w.0 w.1) t) q (contents q) = elim (cases_eq w.0 q) [
      | inl same ↦ subst (λ (s : ℕ). Settles (did (Put w.0 w.1) t) s (contents s)) same (subst (λ (x : List ℕ). Settles (did (Put w.0 w.1) t) w.0 x) (right 0 (omega arith)) (laws.put_settles t w.0 w.1))
      | inr other ↦ laws.put_elsewhere t w.0 q w.1 (contents q) (λ e. other (sym e)) h
    ] in
    subst (λ (l : List Operation). Settles (record { start = t.start; ops = l }) q (contents q)) (append_assoc t.ops (Put w.0 w.1 ∷ []) (puts writes))
    (run_settles laws contents writes q (λ j lt. right (suc j) (omega (arith, lt))) (did (Put w.0 w.1) t) one)

module _ (laws : KernelLaws) (o : World) (k : Kernel) (a : Device) (is_super : IsSuper k.sizes) (run : HasRun o a k) (step : IsInStep a) (b : Device) (put end : ℕ) (job_is : k.job ≡ Homes put) (order : put ≤ end) (within : end ≤ length k.homes)
    (rising : IsStrictlyIncreasing (sectors_of k.homes)) where
  abbrev n : ℕ
  n = log_size k.sizes

  abbrev writes : List (ℕ × List ℕ)
  writes = slice_range k.homes put end

  long : length writes ≡ end - put
  long = omega (arith, order, within, length-take (end - put) (drop put k.homes), length-drop put k.homes)

  write_is : (j : ℕ) (d : ℕ × List ℕ) → j < length writes → get_or writes j d ≡ get_or k.homes (put + j) d
  write_is j d lt = get_or-take (end - put) (drop put k.homes) j d (omega (arith, lt, long)) ∙ get_or-drop put k.homes j d

  noted_write : (r : LogState) → ((q : ℕ) → IsNoted r q (noted_at k.homes q)) → (j : ℕ) (d : ℕ × List ℕ) → j < length writes → IsNoted r (get_or writes j d).0 (Some (get_or writes j d).1)
  noted_write r noted j d lt = subst (λ (w : ℕ × List ℕ). IsNoted r w.0 (Some w.1)) (sym (write_is j d lt))
      (let w : ℕ × List ℕ = get_or k.homes (put + j) d in
      subst (IsNoted r w.0) (laws.notes.stands k.homes (put + j) d w.0 w.1 rising (omega (arith, lt, long, order, within)) refl) (noted w.0))

  are_homes : (r : LogState) → ((q : ℕ) → IsNoted r q (noted_at k.homes q)) → AreHomes r writes
  are_homes r noted = record {
    is_metadata = λ j d lt. (noted_write r noted j d lt).0;
    decided = λ j d lt. (noted_write r noted j d lt).1;
    contents = λ j d lt. (noted_write r noted j d lt).2;
  }

  module _ (t : Tape) (at_t : a.told ≡ Some t) (live : IsLive o k t) where
    abbrev r : LogState
    r = live.reading

    now_homes : Now k (Homes put) o r t
    now_homes = subst (λ (j : Job). Now k j o r t) job_is live.now

    claims : (m : ℕ) (image : ℕ → List ℕ) → a.count ≤ m → ReadsAs n r image → Claim o k m image
    claims m image late reads = way laws o k a is_super run step k.committed r m image (omega arith) (omega (arith, run.order, run.within)) now_homes.0.reading late reads

    stands_told : Told a (Stands n r)
    stands_told = told_at a (Stands n r) t at_t now_homes.1.stands

    past_told : Told a (Past k.first (Claim o k))
    past_told = told_at a (Past k.first (Claim o k)) t at_t live.past

    some : 0 < n
    some = omega (arith, is_super.log_low)

    -- those of earlier stages and those of this one
    written_on : AreWritten n r writes (did_all (puts writes) t) → AreWritten n r (take end k.homes) (did_all (puts writes) t)
    written_on w = record {
      stands = w.stands;
      home = λ j d lt. elim (cases_lt j put) [
        | inl old ↦
            let at : get_or (take end k.homes) j d ≡ get_or (take put k.homes) j d = get_or-take end k.homes j d (omega (arith, old, order)) ∙ sym (get_or-take put k.homes j d old) in
            let before : IsPutHome r (get_or (take put k.homes) j d).0 t = now_homes.1.home j d (omega (arith, old, order, within, length-take put k.homes)) in
            subst (λ (e : ℕ × List ℕ). IsPutHome r e.0 (did_all (puts writes) t)) (sym at)
            (run_settles laws.tape r.contents writes (get_or (take put k.homes) j d).0 (λ i less. (are_homes r now_homes.0.noted).contents i nothing less) t before)
        | inr new ↦
            let i : ℕ = j - put in
            let less : i < length writes = omega (arith, new, lt, long, length-take end k.homes) in
            let there : put + i ≡ j = omega (arith, new) in
            let at : get_or (take end k.homes) j d ≡ get_or writes i d =
            get_or-take end k.homes j d (omega (arith, lt, length-take end k.homes)) ∙ ap (λ (x : ℕ). get_or k.homes x d) (sym there) ∙ sym (write_is i d less) in
            subst (λ (e : ℕ × List ℕ). IsPutHome r e.0 (did_all (puts writes) t)) (sym at) (w.home i d less)
      ];
    }

    homes_at : (job : Job) → (IsLogOf o (record k { job = job }) k.committed r → (u : Tape) → AreWritten n r (take end k.homes) u → Now (record k { job = job }) job o r u) → Ran (puts writes) a b → Told b (IsLive o (record k { job = job }))
    homes_at job now_is ran =
        let both = laws.homes n r writes a b some (are_homes r now_homes.0.noted) ran stands_told in
        let there : b.told ≡ Some (did_all (puts writes) t) = ran.told ∙ ap (option_map (did_all (puts writes))) at_t in
        let written : AreWritten n r writes (did_all (puts writes) t) = subst (λ (x : Option Tape). IfSome x (AreWritten n r writes)) there both.0 in
        let claim : IsShown o k (did_all (puts writes) t) = subst (λ (x : Option Tape). IfSome x (IsShown o k)) there (shown laws o k a is_super run step b (ReadsAs n r) claims both.1 past_told) in
        told_at b (IsLive o (record k { job = job })) (did_all (puts writes) t) there (record {
          past = claim.0;
          reading = r;
          now = now_is (other_job o k job k.committed r now_homes.0) (did_all (puts writes) t) (written_on written);
        })

    homes_broken_at : BrokeOff writes a b → Told b (IsLive o (record k { job = Broken }))
    homes_broken_at broke = told_weaker b (IsShown o k) (IsLive o (record k { job = Broken })) (λ u claim. record { past = claim.0; reading = r; now = claim.1 })
        (shown laws o k a is_super run step b (ReadsAs n r) claims (laws.homes_broken n r writes a b some (are_homes r now_homes.0.noted) broke stands_told) past_told)

  pub homes_more : Ran (puts writes) a b → Told a (IsLive o k) → Told b (IsLive o (record k { job = Homes end }))
  homes_more ran told = told_on a b (puts writes) (IsLive o k) (IsLive o (record k { job = Homes end })) ran.told told (λ t at_t live. homes_at t at_t live (Homes end) (λ l u w. (l, w)) ran)

  pub homes_out : end ≡ length k.homes → Ran (puts writes) a b → Told a (IsLive o k) → Told b (IsLive o (record k { job = HomesOut }))
  homes_out all ran told = told_on a b (puts writes) (IsLive o k) (IsLive o (record k { job = HomesOut })) ran.told told (λ t at_t live. homes_at t at_t live HomesOut (λ l u w. (l, subst (λ (hs : List AfterImage). AreWritten n live.reading hs u) (take_all end k.homes (omega (arith, all))) w)) ran)

  pub homes_broke : BrokeOff writes a b → Told a (IsLive o k) → Told b (IsLive o (record k { job = Broken }))
  homes_broke broke told = elim broke.ran [
    | inl ran ↦ told_on a b _ (IsLive o k) (IsLive o (record k { job = Broken })) ran.told told (λ t at_t live. homes_broken_at t at_t live broke)
    | inr ran ↦ told_on a b _ (IsLive o k) (IsLive o (record k { job = Broken })) ran.told told (λ t at_t live. homes_broken_at t at_t live broke)
  ]
