-- A turn of a session in the midst of a run, event by event.
use Rattle.std.proofs.Common.{◌≡◌, ℕ, ◌+◌, ◌<◌, ◌≤◌, set, List, [], ◌∷◌, ◌++◌, length, true, false, Some, None, refl, sym, ap, subst, ◌∙◌, arith}
use Rattle.vx_base.specs.declared.call.Call.{Call}
use Rattle.vx_base.specs.declared.event.Event.{Event}
use Rattle.vx_base.specs.declared.event.Event.TheVariants as event
use Rattle.vx_base.specs.declared.reply.Reply.{Reply}
use Rattle.vx_base.specs.Lines.{line_after}
use Rattle.vx_model.specs.Legal.{World, stopping, after, after_all}
use Rattle.vx_mount.specs.GrowthLaws.{GrowthLaws}
use Rattle.vx_mount.specs.Pieces.{may_rest, is_stopping}
use Rattle.vx_core.specs.declared.session.Session.{Session}
use Rattle.vx_core.specs.declared.session.UnderWay.{UnderWay}
use Rattle.vx_core.specs.Facts.{ends_run}
use Rattle.vx_core.specs.Tracks.{session_at, IsUnderWay, Tracks, IsRunning, IsStopped}
use Rattle.vx_core.proofs.Pushing.{tracks_other, tracks_do, tracks_ret, under_way_is}
use Rattle.vx_core.proofs.Courses.{running_do, running_release, running_ret, stopping_ret, stopped_by, stopped_settled}
use Rattle.vx_core.proofs.Turning.{TurnSoFar, TurnEnds, turn_begins, turn_later, turn_more, turn_ends, own_do, own_ret}

pub after_push : (w : World) (h : List Event) (e : Event) → after_all w (h ++ e ∷ []) ≡ after (after_all w h) e
after_push w [] e = refl
after_push w (x ∷ h) e = after_push (after w x) h e

-- what holds in a turn that began with this history and this number of operations, once it has come to others
pub record Going (o : World) (lines : List (List Call)) (s : ℕ) (first : List Event) (begin : ℕ) (sessions : List Session) (h : List Event) (count : ℕ) : Type 0 where
  pub tracks : Tracks lines (after_all o h) h sessions
  pub running : IsRunning (after_all o h) h
  pub so_far : TurnSoFar lines s first begin h count

-- ... at its end, where it has stopped the run
pub record Stopping (o : World) (lines : List (List Call)) (s : ℕ) (first : List Event) (begin : ℕ) (sessions : List Session) (h : List Event) (count : ℕ) : Type 0 where
  pub tracks : Tracks lines (after_all o h) h sessions
  pub stopped : IsStopped (after_all o h) h
  pub so_far : TurnSoFar lines s first begin h count
  pub settled : is_stopping h ≡ false

module _ (laws : GrowthLaws) (o : World) (lines : List (List Call)) (s : ℕ) (first : List Event) (begin : ℕ) where
  pub going_begins : (sessions : List Session) → Tracks lines (after_all o first) first sessions → IsRunning (after_all o first) first → Going o lines s first begin sessions first begin
  going_begins sessions t r = record { tracks = t; running = r; so_far = turn_begins lines s first begin }

  module _ (sessions : List Session) (h : List Event) (count : ℕ) (g : Going o lines s first begin sessions h count) where
    pub going_later : (later : ℕ) → count ≤ later → Going o lines s first begin sessions h later
    going_later later le = record { tracks = g.tracks; running = g.running; so_far = turn_later lines s first begin h count later le g.so_far }

    pub going_release : (upto : ℕ) → Going o lines s first begin sessions (h ++ event.Release count upto ∷ []) count
    going_release upto = record {
      tracks = subst (λ w. Tracks lines w (h ++ event.Release count upto ∷ []) sessions) (sym (after_push o h (event.Release count upto)))
          (tracks_other laws lines (after_all o h) h sessions g.tracks (event.Release count upto) refl);
      running = subst (λ w. IsRunning w (h ++ event.Release count upto ∷ [])) (sym (after_push o h (event.Release count upto))) (running_release laws (after_all o h) h count upto g.running);
      so_far = turn_more lines s first begin h count (event.Release count upto) tt g.so_far.onward (omega arith) g.so_far;
    }

    -- the session's next line is done
    pub going_do : (n : ℕ) (c : Call) (reply : Reply) → s < length sessions → session_at sessions s ≡ record { answered = n; under_way = None } → line_after lines s n ≡ Some c
        → Going o lines s first begin (set sessions s (record { answered = n; under_way = Some (record { place = length h; answer = reply }) })) (h ++ event.Do count s (n + 1) c reply ∷ []) count
    going_do n c reply inside is line =
        let e = event.Do count s (n + 1) c reply in
        let later = set sessions s (record { answered = n; under_way = Some (record { place = length h; answer = reply }) }) in
        record {
          tracks = subst (λ w. Tracks lines w (h ++ e ∷ []) later) (sym (after_push o h e)) (tracks_do laws lines (after_all o h) h sessions g.tracks s n inside is count c reply line);
          running = subst (λ w. IsRunning w (h ++ e ∷ [])) (sym (after_push o h e)) (running_do laws (after_all o h) h count s (n + 1) c reply g.running);
          so_far = turn_more lines s first begin h count e (own_do lines (after_all o h) h sessions g.tracks s n count c reply is line) g.so_far.onward (omega arith) g.so_far;
        }

    -- its call is answered
    module _ (n : ℕ) (u : UnderWay) (answer : Reply) (inside : s < length sessions) (is : session_at sessions s ≡ record { answered = n; under_way = Some u }) where
      under : IsUnderWay lines (after_all o h) h s n u
      under = under_way_is laws lines (after_all o h) h sessions g.tracks s n u inside is

      answered_sessions : List Session
      answered_sessions = set sessions s (record { answered = n + 1; under_way = None })

      answered_tracks : Tracks lines (after_all o (h ++ event.Ret count u.place answer ∷ [])) (h ++ event.Ret count u.place answer ∷ []) answered_sessions
      unfolding answered_sessions
      answered_tracks =
          subst (λ w. Tracks lines w (h ++ event.Ret count u.place answer ∷ []) answered_sessions) (sym (after_push o h (event.Ret count u.place answer)))
          (tracks_ret laws lines (after_all o h) h sessions g.tracks s n u inside is count answer)

      answered_so_far : TurnSoFar lines s first begin (h ++ event.Ret count u.place answer ∷ []) count
      answered_so_far = turn_more lines s first begin h count (event.Ret count u.place answer) (own_ret lines (after_all o h) h sessions g.tracks s n count u answer is) g.so_far.onward (omega arith) g.so_far

      pub going_ret : ((x : IsUnderWay lines (after_all o h) h s n u) → ends_run x.call answer ≡ false)
          → Going o lines s first begin (set sessions s (record { answered = n + 1; under_way = None })) (h ++ event.Ret count u.place answer ∷ []) count
      unfolding answered_sessions
      going_ret keeps = record {
        tracks = answered_tracks;
        running = subst (λ w. IsRunning w (h ++ event.Ret count u.place answer ∷ [])) (sym (after_push o h (event.Ret count u.place answer)))
            (running_ret laws (after_all o h) h lines s n u under count answer (keeps under) g.running);
        so_far = answered_so_far;
      }

      -- the answer of a Stop, behind which Stopped comes
      pub stopping_phase : ((x : IsUnderWay lines (after_all o h) h s n u) → ends_run x.call answer ≡ true) → (after_all o (h ++ event.Ret count u.place answer ∷ [])).phase ≡ stopping
      stopping_phase ends = ap (λ (w : World). w.phase) (after_push o h (event.Ret count u.place answer)) ∙ (stopping_ret laws (after_all o h) h lines s n u under count answer (ends under) g.running).0

      pub going_stop : ((x : IsUnderWay lines (after_all o h) h s n u) → ends_run x.call answer ≡ true)
          → Stopping o lines s first begin (set sessions s (record { answered = n + 1; under_way = None })) ((h ++ event.Ret count u.place answer ∷ []) ++ event.Stopped count ∷ []) count
      unfolding answered_sessions
      going_stop ends =
          let k = h ++ event.Ret count u.place answer ∷ [] in
          let e = event.Stopped count in
          record {
            tracks = subst (λ w. Tracks lines w (k ++ e ∷ []) answered_sessions) (sym (after_push o k e)) (tracks_other laws lines (after_all o k) k answered_sessions answered_tracks e refl);
            stopped = subst (λ w. IsStopped w (k ++ e ∷ [])) (sym (after_push o k e)) (stopped_by laws (after_all o k) k count);
            so_far = turn_more lines s first begin k count e (stopping_ret laws (after_all o h) h lines s n u under count answer (ends under) g.running).1 answered_so_far.onward (omega arith) answered_so_far;
            settled = stopped_settled laws (after_all o k) k count;
          }

    -- the whole turn
    pub going_turn : (h ≡ first → count ≡ begin → may_rest lines first s ≡ true) → TurnEnds lines s first begin h count
    going_turn rests = turn_ends lines s first begin h count g.so_far g.running.settled rests

  pub stopping_turn : (sessions : List Session) (h : List Event) (count : ℕ) → Stopping o lines s first begin sessions h count → (h ≡ first → count ≡ begin → may_rest lines first s ≡ true) → TurnEnds lines s first begin h count
  stopping_turn sessions h count g rests = turn_ends lines s first begin h count g.so_far g.settled rests
