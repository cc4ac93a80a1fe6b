mod Rising
mod Zeroes
mod Marking
mod PageRuns
