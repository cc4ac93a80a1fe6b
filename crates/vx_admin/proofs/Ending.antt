-- How a check ends, and its output.
use Rattle.std.proofs.Common.{◌≡◌, ℕ, false, subst, List, Result, Ok, Err}
use Rattle.std.specs.Prelude.{OnOk, OnErr, IfOk, is_ok}
use Rattle.std.specs.Io.KnownBytes.{Appends}
use Rattle.vx_admin.specs.declared.end.End.TheVariants.{Done}
use Rattle.vx_admin.specs.Ends.{HasCause as HasReason, Taking, Takes}
use Rattle.vx_base.specs.Faults.{HasCause}
use Rattle.vx_dev.specs.Tape.{State, Tape, now}
use Rattle.vx_dev.specs.Moments.{Told}
use Rattle.vx_model.specs.Replays.{ReplaysAs, IsClean, IsLeft}
use Rattle.vx_model.specs.Tree.{Tree}
use Rattle.vx_replay.specs.ImageChecks.{PassesCheck}
use Rattle.vx_replay.specs.LogReads.{Shows, IsRead}
use Rattle.vx_replay.specs.Replayed.{IsCounted, IsSettled}
use Rattle.vx_replay.specs.declared.refusal.ReplayRefusal.{ReplayRefusal}
use Rattle.vx_replay.specs.declared.top.Recovered.{Recovered}
use Rattle.vx_replay.specs.declared.top.Recovered.TheVariants.{Clean, Replayed}
use Rattle.vx_script.specs.Puts.{AppendsPrefix}

pub takes_of : {E : Type 0} (t : Taking) (text : List ℕ) (r : Result (Unit {0}) E) → OnOk r (Appends t.before t.now text) → OnErr r (AppendsPrefix t.before t.now text) → HasCause t.faults_before t.faults r → Takes t text (is_ok r)
takes_of t text (Ok x) ok err cause = (ok, cause.fine)
takes_of t text (Err e) ok err cause = (err, cause.failed)

-- a replay that was done is a reason for its end
module _ (old new : State) (r : Result Recovered ReplayRefusal)
    (left : (t : Tape) (tree : Tree) (records sectors : ℕ) → Shows old t → ReplaysAs old.size (now t) tree → r ≡ Ok (Replayed records sectors) → Told new (IsLeft old.size tree))
    (counted : (t : Tape) (records sectors : ℕ) → Shows old t → r ≡ Ok (Replayed records sectors) → IsCounted old.size (now t) records sectors)
    (clean : (t : Tape) (tree : Tree) → Shows old t → ReplaysAs old.size (now t) tree → r ≡ Ok Clean → IsClean old.size (now t) tree)
    (settled : (t : Tape) → Shows old t → r ≡ Ok Clean → IsSettled old.size (now t))
    (sound : (t : Tape) → Shows old t → IfOk r (λ _. PassesCheck false old.size (now t)))
    (unwritten : r ≡ Ok Clean → IsRead old new) where
  passed : (found : Recovered) → r ≡ Ok found → (t : Tape) → Shows old t → PassesCheck false old.size (now t)
  passed found is t shows = subst (λ (x : Result Recovered ReplayRefusal). IfOk x (λ _. PassesCheck false old.size (now t))) is (sound t shows)

  pub reason_of : (found : Recovered) → r ≡ Ok found → new.write_faults ≡ old.write_faults → HasReason old new (Done found)
  reason_of Clean is fine = record { read = unwritten is; sound = passed Clean is; settled = λ t shows. settled t shows is; clean = λ t tree shows replays. clean t tree shows replays is }
  reason_of (Replayed records sectors) is fine = record {
    fine = fine;
    sound = passed (Replayed records sectors) is;
    counted = λ t shows. counted t records sectors shows is;
    left = λ t tree shows replays. left t tree records sectors shows replays is;
  }
