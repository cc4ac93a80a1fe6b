use Rattle.vx_filemaps.proofs.InSpace.{write_is, request_is, count_is}
use Rattle.vx_filemaps.proofs.laws.place_laws.Goals as goal

pub returns-clause-write : goal.returns-clause-write
returns-clause-write c = λ v free x maps m view attrs first from n is. write_is v free x maps m view is attrs first from n

pub returns-clause-request : goal.returns-clause-request
returns-clause-request c = λ v free x maps m view attrs first need is plain. request_is v free x maps m view is attrs first need plain

pub returns-clause-count : goal.returns-clause-count
returns-clause-count c = λ v free x maps m view attrs first need is. count_is v free x maps m view is attrs first need
