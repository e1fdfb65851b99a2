mod Contexts
