pub mod Kexecs
