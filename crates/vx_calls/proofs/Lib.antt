mod Asking
mod Keeping
mod Lines
mod Noting
mod Owing
mod Spending
mod Waiting
