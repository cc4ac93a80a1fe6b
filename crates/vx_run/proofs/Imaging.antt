-- A mount of an image, as a core takes it.
use Rattle.std.proofs.Common.{◌≡◌, ℕ, Option, Some, None, refl, sym, ◌∙◌, ap, subst, arith}
use Rattle.std.specs.Prelude.{IfSome}
use Rattle.vx_base.specs.Faults.{Rose}
use Rattle.vx_dev.specs.Moments.{Told}
use Rattle.vx_dev.specs.Tape as dev
use Rattle.vx_dev.specs.Tape.{Tape, now}
use Rattle.vx_layout.specs.LogForms.{head_sector}
use Rattle.vx_layout.specs.Supers.{super_bytes}
use Rattle.vx_layout.specs.declared.superblock.Super.{Super}
use Rattle.vx_load.specs.Loads.{IsLoaded, IsRefused}
use Rattle.vx_load.specs.declared.loading.Loaded.{Loaded}
use Rattle.vx_load.specs.declared.refusal.LoadRefusal.{LoadRefusal}
use Rattle.vx_load.specs.declared.refusal.LoadRefusal.TheVariants as load
use Rattle.vx_replay.specs.LogReads.{IsRead, Shows}
use Rattle.vx_replay.specs.declared.image_check.CheckRefusal.TheVariants as check
use Rattle.vx_stage.specs.Kernels.{IsLeftAs, IsMounted, clean_super}
use Rattle.vx_run.specs.Ends.{HasEnded, IsAsked, IsFoundState, Setting, refused, start_of_load}
use Rattle.vx_run.specs.declared.words.Verb.TheVariants as verb

-- why it is not
pub ended_unloaded : (s : Setting) (d : dev.State) (faults : ℕ) (why : LoadRefusal) → IsAsked s verb.Mount → IsRefused s.device d why → IsRead s.device d → HasEnded s d faults (refused (start_of_load why))
ended_unloaded s d faults (load.Check (check.BadSuper field)) asked why read = record { asked = asked; refused_for = why; read = read }
ended_unloaded s d faults (load.Check (check.BadLog sector)) asked why read = record { asked = asked; refused_for = why; read = read }
ended_unloaded s d faults (load.Check (check.BadMeta sector)) asked why read = record { asked = asked; refused_for = why; read = read }
ended_unloaded s d faults (load.Check (check.NotClean tail head)) asked why read = record { asked = asked; refused_for = why; read = read }
ended_unloaded s d faults (load.Check check.ReadFault) asked why read = record { asked = asked; refused_for = why; read = read }
ended_unloaded s d faults (load.Check check.NoMemory) asked why read = ((asked.asked, asked.asks.words), read)
ended_unloaded s d faults (load.HasBytes ino) asked why read = record { asked = asked; refused_for = why; read = read }

-- what a device that tells nothing would tell is so
pub told_by : (d e : dev.State) (P : Tape → Type 0) → (d.told ≡ None → e.told ≡ None) → ((t : Tape) → d.told ≡ Some t → Told e P) → Told e P
told_by d e P none some = by_cases d.told refl
  where
    by_cases : (o : Option Tape) → d.told ≡ o → Told e P
    by_cases None is = subst (λ (x : Option Tape). IfSome x P) (sym (none is)) tt
    by_cases (Some t) is = some t is

module _ (d : dev.State) (l : Loaded) (is : IsLoaded d l) where
  abbrev sizes : Super
  sizes = l.front.superblock

  pub mounted : IsMounted sizes is.state
  mounted = let well = is.is.well_formed in record { consistent = record { laid_out = well.laid_out; names = well.names; links = well.links; no_loops = well.no_loops }; log_blocks = is.is.log_blocks; units = is.is.units }

  clean_is : sizes ≡ clean_super sizes
  clean_is = λ i. record { log_blocks = sizes.log_blocks; units = sizes.units; clean = is.front.clean i }

  -- the image is left as the log that is made of its head sector stands
  pub left_as : (serial position : ℕ) → serial ≡ l.front.ends.serial → position ≡ l.front.ends.head → (t : Tape) → Shows d t → IsLeftAs sizes is.state serial position (now t)
  left_as serial position serial_is position_is t shown =
      let holds = is.shown t shown in
      let ends = is.front.is_ends in
      record {
        metadata = holds.stands;
        head = holds.head_is ∙ ap (λ n. head_sector n l.front.ends.tail l.front.ends.head) (sym serial_is) ∙ ap (λ n. head_sector serial n l.front.ends.head) (is.front.level ∙ sym position_is) ∙ ap (λ n. head_sector serial position n) (sym position_is);
        superblock = holds.superblock_is ∙ ap super_bytes clean_is;
        serial_limit = (let low = ends.serial in omega (arith, low, serial_is));
        limit = (let low = ends.limit in omega (arith, low, position_is));
      }

  pub found : IsFoundState d sizes is.state
  found = record {
    is_super = is.front.is_super;
    room = is.front.room;
    mounted = mounted;
    plain = (let well = is.is.well_formed in well.plain);
    device = is.is.device;
    nothing_waits = is.is.nothing_waits;
    limit = is.is.limit;
    stands = λ t shown. (let holds = is.shown t shown in holds.stands);
    mountable = λ t shown. (let holds = is.shown t shown in holds.mountable);
    reads = λ t shown. (let holds = is.shown t shown in holds.reads);
  }

-- a count of failed writes that rose
pub rose_from : (a b c : ℕ) → b ≡ a → Rose b c → Rose a c
rose_from a b c same rose = subst (λ n. Rose n c) same rose
