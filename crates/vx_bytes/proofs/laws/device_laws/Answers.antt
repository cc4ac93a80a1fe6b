use Rattle.vx_bytes.proofs.Filing.{files_barrier}
use Rattle.vx_bytes.proofs.Putting.{put, put_failed, put_page, files_moments}
use Rattle.vx_bytes.proofs.laws.device_laws.Goals as goal

pub returns : goal.returns
returns c = record {
  put = λ mode o h p since t ino part sector bytes uses may old. put c.tape_laws.ensures mode o h p since uses t ino part sector bytes may old;
  failed = λ mode o h p since t ino part sector bytes uses may old. put_failed c.tape_laws.ensures mode o h p since uses t ino part sector bytes may old;
  page = put_page c.tape_laws.ensures;
  barrier = λ mode o h p since t old. files_barrier mode o h p since t c.tape_laws.ensures old;
  named = λ mode o h p since t is_named ops j apart each old. files_moments mode o h p since is_named apart ops t j each old;
}
