mod Places
mod NoteOrder
mod HomeRuns
mod Getting
mod Slices
