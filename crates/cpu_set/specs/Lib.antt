pub mod CpuSet
