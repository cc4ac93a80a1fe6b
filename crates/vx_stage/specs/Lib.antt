pub mod Leads
pub mod MergeLaws
pub mod Kernels
pub mod KernelLaws
pub mod Growths
pub mod Staged
